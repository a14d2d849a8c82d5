-- What settled logs make of a history.
use Rattle.history_spec.proofs.Names.{◌≡◌, ℕ, ◌+◌, ◌==◌, Some, List, length, refl, sym, ◌∙◌, eq-eqb, arith, length-map, Turn, entries_of, Parts, Act, Entry, sizes_in, too_small, claims_of, IsLegalMiss, Fate, lost, accepted, claims_got, Calls, entries_by, StandsIn, claims_by, entries_from, [], AreSettled, AreLegalContexts, some, get_elem?, fate_within}
use Rattle.history_spec.proofs.FatesLemmas.{got_rise}
use Rattle.history_spec.proofs.FollowsLemmas.{Shows, call_was, calls_got, log_shows, shown_in_order}
use Rattle.history_spec.proofs.PlaceLemmas.{stands_kept, stands_where_counted}
use Rattle.history_spec.proofs.TotalLemmas.{as_many, counted, each_claim_once}

-- an entry is one of its caller's calls
pub its_call : (turns : List Turn) (calls : ℕ → Calls) → ((caller : ℕ) → entries_by caller (entries_of turns) ≡ entries_from caller 0 (calls caller))
    → (c : ℕ) (e : Entry (List ℕ)) → StandsIn (entries_of turns) e → e.caller ≡ c → get_elem? (calls c) e.call ≡ some (Some e.act)
its_call turns calls are_entries c e stands is =
    let kept = stands_kept (λ x. c == x.caller) (entries_of turns) e stands (eq-eqb c e.caller (sym is)) in
    let was = call_was [] 0 c 0 (calls c) e (rw (are_entries c) at kept) in grind (arith, was.1, was.2)

module _ (config : Parts) (turns : List Turn) (calls : ℕ → Calls) (log : ℕ → ℕ → List Fate) (claimants : ℕ → List ℕ)
    (s : AreSettled config turns calls log claimants) where
  -- the claims that a caller's entries keep are those that its log got
  kept_are_got : (i c : ℕ) → claims_of i (entries_by c (entries_of turns)) ≡ claims_got (log c i)
  kept_are_got i c = rw (s.are_entries c) (calls_got (sizes_in config) i c 0 (calls c) (log c i) (s.follows c i))

  kept_are_claims : (i c : ℕ) → claims_of i (entries_by c (entries_of turns)) ≡ claims_by c 0 (claimants i)
  kept_are_claims i c = kept_are_got i c ∙ (s.settled c i).got

  -- so there are as many claims as claimants
  pub each_claim : (i : ℕ) → length (claims_of i (entries_of turns)) ≡ length (claimants i)
  each_claim i =
      as_many (length (claimants i)) (claims_of i (entries_of turns)) (counted i (entries_of turns) (claimants i) (kept_are_claims i))

  legal_miss : (e : Entry (List ℕ)) (i claimed : ℕ) → StandsIn (entries_of turns) e → Shows (sizes_in config) i e.act (lost claimed)
      → IsLegalMiss config turns e.caller e.call i claimed
  legal_miss e i claimed stands shows =
      let c = e.caller in
      let settled = s.settled c i in
      let mine = its_call turns calls s.are_entries c in
      let here = mine e stands refl in
      let place = log_shows (sizes_in config) i e.call (calls c) (log c i) e.act (lost claimed) (s.follows c i) here shows in
      let within = fate_within 0 (log c i) place.0 (lost claimed) settled.decided.rises place.1 in
      let order = λ (j k : ℕ) (act other : Act (List ℕ)) (fate next : Fate).
      shown_in_order (sizes_in config) i j k 0 (calls c) (log c i) act other fate next (s.follows c i) settled.decided.rises in
      record {
        all_out = settled.decided.at_front place.0 claimed place.1;
        by_entries = λ claim less. stands_where_counted claim _
            (grind (arith, counted i (entries_of turns) (claimants i) (kept_are_claims i) claim, within.1, settled.decided.within));
        earlier = λ other claim at is less kept.
            omega (arith, order other.call e.call other.act e.act (accepted claim) (lost claimed) (mine other at is) here less kept shows);
        later = λ other claim at is less kept. order e.call other.call e.act other.act (lost claimed) (accepted claim) here (mine other at is) less shows kept;
      }

  pub legal_contexts : AreLegalContexts config turns
  legal_contexts = record {
    claims = record {
      each_claim = λ i. each_claim_once i (entries_of turns) (claimants i) (kept_are_claims i);
      claims_rise = λ i c. rw (kept_are_got i c) (got_rise 0 0 (log c i) (omega arith) (s.settled c i).decided.rises);
    };
    missing = λ e bytes numbers stands misses fit. record {
      each_class = fit;
      each_miss = λ k claimed at. legal_miss e (too_small config bytes + k) claimed stands (numbers, k, misses, at, omega (arith, length-map config.classes (λ class. class.size)));
    };
  }
