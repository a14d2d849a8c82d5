-- A small run: two callers on a report ring of two places, with one class of one buffer. Caller 0 reports twice with
-- context, and finds a buffer once. Caller 1 finds no place.
use Rattle.history_spec.proofs.Names.{◌≡◌, ℕ, zero, suc, ◌≤◌, List, [], ◌∷◌, length, Some, None, refl, arith, Turn, entries_of, Parts, class_of, Act, Report, Kept, Missing, Entry, AreDecided, all_losses, Fate, lost, accepted, FatesFrom, end_from, Calls, Follows, class_at, entries_by, IsItsLine, IsMerge, sizes_in, StandsIn, entries_from, AreLegalContexts, IsSettledLog, AreAllDecided, some, some-injective, rules, get_elem?, AllByRecursion, Carried}
use Rattle.history_spec.specs.Rounds.{Asked, reports, Round, lines_of}
use Rattle.history_spec.proofs.ContextLemmas.{legal_contexts}
use Rattle.history_spec.proofs.DecidedLemmas.{are_merged}

abbrev report : Carried (List ℕ) → Act (List ℕ)
report context = Report (record { 0 = 3 }) 1 None context

abbrev its : Asked
its = reports (record { 0 = 3 }) 1 None (7 ∷ [])

abbrev calls : ℕ → Calls
calls zero = Some (report (Kept 0 0 (7 ∷ []))) ∷ Some (report (Missing (1 ∷ []))) ∷ []
calls (suc zero) = None ∷ []
calls (suc (suc caller)) = []

-- a turn: its tick, how many losses and missing contexts it tells, and what it takes
abbrev pub turn : ℕ → ℕ → ℕ → List (Entry (List ℕ)) → Turn
turn tick events contexts entries =
    record { head = record { tick = tick; lost_events = events; lost_contexts = contexts; limited = 0 }; entries = entries }

abbrev turns : List Turn
turns = turn 5 1 1 (entries_from 0 0 (calls 0)) ∷ turn 5 0 0 [] ∷ []

abbrev callers : List (List Fate)
callers = (accepted 0 ∷ accepted 1 ∷ []) ∷ (lost 2 ∷ []) ∷ []

abbrev rounds : List Round
rounds = record { beside = []; lines = (its ∷ its ∷ []) ∷ (reports (record { 0 = 3 }) 1 None [] ∷ []) ∷ []; after = 5 } ∷ []

-- where a call was lost, what holds of each number at which one was
abbrev pub OnLost : (ℕ → Type 0) → Fate → Type 0
OnLost P (lost claimed) = P claimed
OnLost P (accepted ticket) = Unit {0}

lost_at : (P : ℕ → Type 0) (fates : List Fate) → AllByRecursion (OnLost P) fates → (place claimed : ℕ)
    → get_elem? fates place ≡ some (lost claimed) → P claimed
lost_at P [] all place claimed at = cc
lost_at P (fate ∷ fates) all zero claimed at = rw (some-injective _ _ at) at all.0
lost_at P (fate ∷ fates) all (suc place) claimed at = lost_at P fates all.1 place claimed at

pub all_decided : {n : ℕ} {P : ℕ → Type 0} {fates : List Fate} → FatesFrom 0 fates → end_from 0 fates ≤ n → AllByRecursion (OnLost P) fates
    → AreAllDecided n P fates
all_decided {n} {P} {fates} rises within all = record { rises = rises; within = within; at_front = lost_at P fates all }

decided : AreDecided 2 (λ caller. length (lines_of caller rounds)) turns callers
decided (suc zero) = search (rules, all_decided)
decided caller = search (rules, all_decided)

abbrev log : ℕ → ℕ → List Fate
log zero zero = accepted 0 ∷ lost 1 ∷ []
log caller i = []

abbrev claimants : ℕ → List ℕ
claimants zero = 0 ∷ []
claimants (suc i) = []

module _ (given : Parts) where
  abbrev config : Parts
  config = record given { ring = 2; classes = class_of (8, 1) ∷ [] }

  follows : (caller i : ℕ) → Follows (sizes_in config) i (calls caller) (log caller i)
  follows zero zero = (accepted 0 ∷ [], lost 1 ∷ [], refl, search rules, (lost 1 ∷ [], [], refl, refl, refl))
  follows zero (suc i) = ([], [], refl, grind arith, ([], [], refl, grind arith, refl))
  follows (suc zero) i = ([], [], refl, refl, refl)
  follows (suc (suc caller)) i = refl

  settled_log : (caller i : ℕ) → IsSettledLog (class_at config i).number (claimants i) caller (log caller i)
  settled_log zero zero = search (rules, all_decided)
  settled_log caller i = search (rules, all_decided)

  are_entries : (caller : ℕ) → entries_by caller (entries_of turns) ≡ entries_from caller 0 (calls caller)
  are_entries zero = refl
  are_entries caller = grind arith

  legal : AreLegalContexts config turns
  legal = legal_contexts config turns calls log claimants (record { follows = follows; settled = settled_log; are_entries = are_entries })

  as_asked : (e : Entry (List ℕ)) → StandsIn (entries_of turns) e → IsItsLine config rounds turns e
  as_asked e (zero, at) = rw (← some-injective _ e at) (its, refl, (refl, refl, refl, search rules))
  as_asked e (suc zero, at) = rw (← some-injective _ e at)
      (its, refl, (refl, refl, refl, (omega arith, legal.missing (record { caller = 0; call = 1; act = report (Missing (1 ∷ [])) }) 1 (1 ∷ []) (1, refl) refl refl)))
  as_asked e (suc (suc place), at) = cc

  merged : IsMerge config rounds turns (all_losses 2 0 callers)
  merged = record {
    calls = are_merged 2 turns (λ caller. length (lines_of caller rounds)) callers decided;
    as_asked = as_asked;
    claims = legal.claims;
    lost_events = refl;
    lost_contexts = refl;
    ticks_are = refl;
    few = (omega arith, (omega arith, tt));
  }
