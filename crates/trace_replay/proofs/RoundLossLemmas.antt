-- How many calls a round loses at most, and how many contexts it misses.
use Rattle.trace_replay.proofs.Names.{All-from_recursion, AllByRecursion, AreRounds, AskInOrder, ClassRest, Entry, Fate, Gives, IsAllowedRound, IsLater, IsReplay, IsRestOf, List, Parts, Rested, Round, RunManager, StandsIn, [], add-one, all_split, ap, arith, ask_in_order, asks_back, begun_round, calls_between, calls_by, entries_between, entries_of, flat_map-push, givers_of, greatest, length, length-append, lines_at, lines_before, lines_in, lines_of, lost_in, missing_in, none_lost, refl, rest_by, round_at, subst, suc, sum_by, sum_by-append, sum_by-cons, sym, take, take-append-drop, take-suc, take_all, take_more, ticks_before, too_many, turns_between, zero, ℕ, ◌++◌, ◌+◌, ◌-◌, ◌<◌, ◌∙◌, ◌∷◌, ◌≡◌, ◌≤◌}
use Rattle.history_spec.proofs.ClassRestLemmas.{most as most_of_class}
use Rattle.history_spec.proofs.RestLemmas.{most as at_most, own_round}
use Rattle.trace_replay.proofs.EndLemmas.{all_map}
use Rattle.trace_replay.proofs.MergeLemmas.{no_lines}
use Rattle.trace_replay.proofs.RoundLemmas.{ticks_more}

-- before each round there is a rest, or the start
rested_before : (config : Parts) (rounds : List Round) (m : RunManager) (gives : Gives) → IsReplay config rounds m gives → (k : ℕ) → k < length rounds
    → Rested config.ring gives.turns gives.losses (rest_by rounds k)
rested_before config rounds m gives is zero less = record {
  settled = rw (none_lost gives.losses) (record { each_once = λ c call. grind arith; in_order = λ c. tt; legal = λ loss stands. cc; looks_keep_up = λ c. tt; losses_in_order = tt });
  sees = λ loss stands after. omega arith;
}
rested_before config rounds m gives is (suc k) less = rw add-one at (is.rested k (omega (arith, less)))

module _ (config : Parts) (rounds : List Round) (m : RunManager) (gives : Gives) (k : ℕ) (is : IsReplay config rounds m gives) (are : AreRounds config rounds)
    (less : k < length rounds) where
  -- each round has as many lists of lines as there are callers
  each : AllByRecursion (λ round. length round.lines ≡ config.callers) rounds
  each = all_map (IsAllowedRound config) (λ round. length round.lines ≡ config.callers) (λ round its. its.callers) rounds are.allowed

  -- a caller makes the calls of its lines in round k
  calls_more : (caller : ℕ) → length (lines_before rounds (k + 1) caller) ≡ length (lines_before rounds k caller) + length (lines_at caller (round_at rounds k))
  calls_more caller = ap (λ rounds. length (lines_of caller rounds)) (take_more rounds k (begun_round 0 [] 0) less)
      ∙ ap length (flat_map-push (lines_at caller) (take k rounds) (round_at rounds k)) ∙ length-append _ _

  -- and so do the first callers
  calls_of_first : (c : ℕ) → c ≤ length (round_at rounds k).lines
      → calls_between c (rest_by rounds k) (rest_by rounds (k + 1)) ≡ sum_by length (take c (round_at rounds k).lines)
  calls_of_first zero le = refl
  calls_of_first (suc c) le =
      let lines = (round_at rounds k).lines in
      let here = lines_at c (round_at rounds k) in
      let more = ap (sum_by length) (take-suc lines c [] (omega (arith, le))) ∙ sum_by-append length (take c lines) (here ∷ []) in
      omega (arith, more, sum_by-cons length here [], calls_of_first c (omega (arith, le)), calls_more c)

  -- the rest after it is later
  later : IsLater config.callers (rest_by rounds k) (rest_by rounds (k + 1))
  later = record {
    turns_rise = omega (arith, ap length (ticks_more rounds k less), length-append (ticks_before rounds k) ((round_at rounds k).beside ++ (round_at rounds k).after ∷ []));
    calls_rise = λ caller. omega (arith, calls_more caller);
    no_others = λ caller past. ap length (no_lines config.callers caller (take (k + 1) rounds)
        (all_split _ (take (k + 1) rounds) _ (subst (AllByRecursion (λ round. length round.lines ≡ config.callers)) (sym (take-append-drop (k + 1) rounds)) each)).0 past);
  }

  before : Rested config.ring gives.turns gives.losses (rest_by rounds k)
  before = rested_before config rounds m gives is k less

  -- each entry of a round is that of one of its calls
  pub own_lines : (e : Entry (List ℕ)) → StandsIn (entries_of (turns_between (rest_by rounds k) (rest_by rounds (k + 1)) gives.turns)) e
      → (length (lines_before rounds k e.caller) ≤ e.call) × (e.call < length (lines_before rounds (k + 1) e.caller))
  own_lines = own_round config.ring config.callers gives.turns gives.losses (rest_by rounds k) (rest_by rounds (k + 1)) before.settled (is.rested k less).settled later

  -- between two rests at most so many are lost
  pub most : lost_in rounds k gives.losses ≤ lines_in (round_at rounds k) - config.ring
  most =
      let many = All-from_recursion (λ round. length round.lines ≡ config.callers) rounds each k (begun_round 0 [] 0) less in
      let all = calls_of_first config.callers (omega (arith, many)) ∙ ap (sum_by length) (take_all config.callers (round_at rounds k).lines (omega (arith, many))) in
      omega (arith, all, at_most config.ring config.callers gives.turns gives.losses (rest_by rounds k) (rest_by rounds (k + 1)) before.settled (is.rested k less).settled later before.sees)

  module _ (first second : ClassRest) (one : IsRestOf is k first) (other : IsRestOf is (k + 1) second) where
    abbrev log : ℕ → ℕ → List Fate
    log = asks_back (givers_of m.desk.givers)

    -- contexts of a round ask in order
    in_order : AskInOrder config gives.turns log first second
    in_order = ask_in_order config gives.turns (calls_by is.passes) log first second is.settled.are_entries is.settled.follows one.asked other.asked
        (rw (one.rest_is, other.rest_is) later.turns_rise) (rw (one.rest_is, other.rest_is) own_lines)

    pub most_missing : missing_in config (entries_between gives.turns first second) ≤ greatest (length config.classes) (too_many config gives.turns first second)
    most_missing = most_of_class config gives.turns log first second one.rested other.rested in_order
