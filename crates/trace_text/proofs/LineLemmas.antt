-- Each turn, entry and loss of a merge by itself: what its line tells can be held, its numbers are in range, and its
-- event may stand there.
use Rattle.trace_text.proofs.Names.{◌≡◌, ℕ, zero, suc, ◌-◌, ◌<◌, ◌≤◌, ◌^◌, true, false, List, [], ◌∷◌, length, length-append, refl, sym, ap, subst, arith, ◌==◌, slice_index_or, AllByRecursion, flat_map, list_any, eq-eqb, eqb-true, false_from_ne_true, le-leb, get_or_past, Turn, entries_of, Parts, class_of, AreClasses, IsValid, ClassSpec, Carried, Absent, Kept, Missing, Act, Report, State, SetMode, Entry, Loss, calls_of, lost_calls_of, CarriesAsAsked, IsAsAsked, IsMerge, StandsIn, Asked, reports, changes, sets, Round, last_tick, lines_at, lines_of, round_ticks, ticks_of, stands_kept, is_act, is_call, is_claim, is_context, is_head, has_event, is_pair, pair_of, act_fields, AreRounds, IsAllowedRound, MayAsk, IsSmall, all_append, all_at, last_small, AreSmall, IsSmallHead, IsContext, AreHeld, All-from_recursion}
use Rattle.history_spec.specs.Contexts.{claim_in, claim_of, claims_of, IsLegalMiss}
use Rattle.text_spec.specs.Below.{IsBytes}
use Rattle.std.proofs.lemmas.List.Folds.{list_any_none}
use Rattle.std.proofs.lemmas.List.Sums.{list_all-from_AllPass}
use Rattle.trace_text.proofs.StandsLemmas.{all_stands, stands_all, stands_at, stands_counted, stands_flat_map, stands_map}

-- entries with their context as bytes
abbrev pub Entries : Type 0
Entries = List (Entry (List ℕ))

-- what holds of an entry that a journal has a line for
pub record EntryFits (config : Parts) (e : Entry (List ℕ)) : Type 0 where
  pub held : AreHeld (act_fields e.caller e.call e.act)
  pub place : is_call e.caller e.call ≡ true
  pub ranges : is_act e.act ≡ true
  pub event : has_event config e.act ≡ true

-- what holds of a turn that a journal has lines for
pub record TurnFits (config : Parts) (turn : Turn) : Type 0 where
  pub head : is_head turn.head ≡ true
  pub few : length turn.entries ≤ 1024
  pub entries : AllByRecursion (EntryFits config) turn.entries

-- what holds of a loss that a journal has a line for, after these entries
pub record LossFits (entries : Entries) (loss : Loss) : Type 0 where
  pub place : is_call loss.caller loss.call ≡ true
  pub given : is_claim loss.given ≡ true
  pub apart : list_any (is_pair (pair_of loss.caller loss.call)) entries ≡ false

-- claims by class are small
abbrev AreSmallClaims : (ℕ → List ℕ) → Type 0
AreSmallClaims claims = (i claim : ℕ) → StandsIn (claims i) claim → claim < 2 ^ 45

-- classes have small sizes
size_small : (above i : ℕ) (classes : List ClassSpec) → AreClasses above classes
    → (slice_index_or classes i (class_of (0, 0))).size ≤ 1024
size_small above i [] are = omega arith
size_small above zero (class ∷ classes) are = are.1.most
size_small above (suc i) (class ∷ classes) are = size_small class.size i classes are.3

-- an act has one claim of a class at most, so entries have no more claims than they are
one_claim : (i : ℕ) (act : Act (List ℕ)) → length (claim_of i act) ≤ 1
one_claim i act = grind arith

few_claims : (i : ℕ) (entries : Entries) → length (claims_of i entries) ≤ length entries
few_claims i [] = omega arith
few_claims i (e ∷ entries) = grind (arith, length-append, one_claim i e.act, few_claims i entries)

module _ (config : Parts) where
  -- a caller may ask each of its lines, and callers beyond the configured ones have none
  lines_allowed : (caller : ℕ) (rounds : List Round) → AllByRecursion (IsAllowedRound config) rounds
      → AllByRecursion (MayAsk config) (lines_of caller rounds)
  lines_allowed caller [] all = tt
  lines_allowed caller (round ∷ rounds) all =
      all_append (MayAsk config) (lines_at caller round) (lines_of caller rounds)
      (all_at (AllByRecursion (MayAsk config)) round.lines caller [] all.0.asked tt) (lines_allowed caller rounds all.1)

  caller_there : (caller : ℕ) (rounds : List Round) → AllByRecursion (IsAllowedRound config) rounds
      → (call : ℕ) → call < length (lines_of caller rounds) → caller < config.callers
  caller_there caller [] all call within = absurd (omega arith)
  caller_there caller (round ∷ rounds) all call within =
      let later = caller_there caller rounds all.1 (call - length (lines_at caller round)) in
      grind (arith, length-append, get_or_past round.lines caller [], all.0.callers, later)

  module _ (rounds : List Round) (turns : List Turn) (losses : List Loss) (valid : IsValid config)
      (fit : AreRounds config rounds) (small : AreSmall rounds turns) (merge : IsMerge config rounds turns losses) where
    -- the place of a line is a call
    line_is_call : (caller call : ℕ) → call < length (lines_of caller rounds) → is_call caller call ≡ true
    line_is_call caller call within =
        grind (arith, caller_there caller rounds fit.allowed call within, valid.callers.most, small.few_lines caller)

    -- the claims of the turns are small, and so is a number of a missing context
    claims_small : AreSmallClaims (λ i. claims_of i (entries_of turns))
    claims_small i claim stands =
        grind (arith, stands_counted _ _ stands, merge.claims.each_claim i claim, few_claims i (entries_of turns), small.few_entries)

    miss_small : (caller call i claimed : ℕ) → IsLegalMiss config turns caller call i claimed → is_claim claimed ≡ true
    miss_small caller call i zero legal = refl
    miss_small caller call i (suc claim) legal =
        le-leb _ _ (omega (arith, claims_small i claim (legal.by_entries claim (omega arith))))

    -- a context that is carried as it was asked
    context_fits : (caller call : ℕ) (bytes : List ℕ) (context : Carried (List ℕ)) → IsBytes bytes
        → AreSmallClaims (λ i. claim_in i context) → CarriesAsAsked config turns caller call bytes context
        → IsContext context × (is_context context ≡ true)
    context_fits caller call bytes Absent are low carries = (tt, refl)
    context_fits caller call bytes (Kept class claim kept) are low carries =
        let its_claim = low class claim (rw (eq-eqb class class refl) (0, refl)) in
        let its_bytes = subst IsBytes (sym carries.kept_is) are in
        grind (arith, its_claim, its_bytes, ap length carries.kept_is, carries, valid.few_classes, size_small 0 class config.classes valid.classes)
    context_fits caller call bytes (Missing numbers) are low carries =
        let small_ones : is_context (Missing numbers) ≡ true = list_all-from_AllPass is_claim numbers (All-from_recursion _ numbers (stands_all _ numbers (λ n at. miss_small caller call _ n (carries.1.each_miss at.0 n at.1)))) in
        grind (arith, carries.1.each_class, valid.few_classes, small_ones)

    -- an act that is as its line asks
    act_fits : (caller call : ℕ) (asked : Asked) (act : Act (List ℕ)) → MayAsk config asked
        → AreSmallClaims (λ i. claim_of i act) → is_call caller call ≡ true → IsAsAsked config turns caller call asked act
        → EntryFits config (record { caller = caller; call = call; act = act })
    act_fits caller call (reports event count stamp bytes) (Report its its_count its_stamp context) may low is
        (is_event, is_count, is_stamp, carries) =
        let fits = context_fits caller call bytes context may.0.1.1.1.1.1.0 low carries in
        grind (arith, is_event, is_count, is_stamp, may, fits, is)
    act_fits caller call (changes state) (State its) may low is is_state =
        grind (arith, is_state, may, is)
    act_fits caller call (sets event mode) (SetMode its its_mode) may low is (is_event, is_mode) =
        grind (arith, is_event, is_mode, may, is)
    act_fits caller call asked act may low is none = absurd none

    -- each entry
    pub entry_fits : (e : Entry (List ℕ)) → StandsIn (entries_of turns) e → EntryFits config e
    entry_fits e stands =
        let line = merge.as_asked e stands in
        let its_lines = lines_of e.caller rounds in
        let may = all_stands (MayAsk config) its_lines line.0 (lines_allowed e.caller rounds fit.allowed) (e.call, line.1) in
        let low = λ (i claim : ℕ) (at : StandsIn (claim_of i e.act) claim).
        claims_small i claim (stands_flat_map (λ x. claim_of i x.act) (entries_of turns) e claim stands at) in
        let is = line_is_call e.caller e.call (stands_at its_lines e.call line.0 line.1).0 in
        act_fits e.caller e.call line.0 e.act may low is line.2

    -- each turn; the last tick comes once more at the close
    pub turn_fits : (turn : Turn) → StandsIn turns turn → TurnFits config turn
    turn_fits turn stands =
        let ticks = all_append IsSmall (flat_map round_ticks rounds) (last_tick rounds ∷ []) fit.ticks.small
        (last_small rounds fit.ticks, tt) in
        let its_tick = stands_map (λ t. t.head.tick) turns turn stands in
        let tick = all_stands IsSmall (ticks_of rounds) turn.head.tick ticks (rw merge.ticks_are at its_tick) in
        let head = all_stands (λ t. IsSmallHead t.head) turns turn small.heads stands in
        let few = all_stands (λ t. length t.entries ≤ config.ring) turns turn merge.few stands in
        let entries = stands_all (EntryFits config) turn.entries (λ e at. entry_fits e (stands_flat_map (λ t. t.entries) turns turn e stands at)) in
        grind (arith, tick, head, few, valid.ring.most, entries)

    -- each loss; its call is no entry's
    pub loss_fits : (loss : Loss) → StandsIn losses loss → LossFits (entries_of turns) loss
    loss_fits loss stands =
        let kept = stands_kept (λ l. loss.caller == l.caller) losses loss stands (eq-eqb loss.caller loss.caller refl) in
        let calls = calls_of loss.caller (entries_of turns) in
        let once = merge.calls.each_once loss.caller loss.call in
        let lost = stands_counted loss.call (lost_calls_of loss.caller losses) (stands_map (λ l. l.call) _ loss kept) in
        let is = line_is_call loss.caller loss.call (grind (arith, once, lost)) in
        let none_is = λ (e : Entry (List ℕ)) (at : StandsIn (entries_of turns) e)
        (same : is_pair (pair_of loss.caller loss.call) e ≡ true).
        let place = (entry_fits e at).place in
        let pair = eqb-true _ _ same in
        let by : e.caller ≡ loss.caller = grind (arith, place, is, pair) in
        let own = stands_kept (λ x. loss.caller == x.caller) (entries_of turns) e at (eq-eqb _ _ (sym by)) in
        let own_call = stands_counted loss.call calls (subst (StandsIn calls) (omega (arith, pair, by)) (stands_map (λ x. x.call) _ e own)) in
        let never : ⊥ = grind (arith, once, lost, own_call) in never in
        let apart : list_any (is_pair (pair_of loss.caller loss.call)) (entries_of turns) ≡ false = list_any_none _ (entries_of turns) (All-from_recursion _ _ (stands_all _ (entries_of turns) (λ e at. false_from_ne_true _ (none_is e at)))) in
        grind (arith, is, (merge.calls.legal loss stands).claimed, small.few_entries, apart)
