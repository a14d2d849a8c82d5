-- What the passes of a replay did is a merge of their callers' lines.
use Rattle.trace_replay.proofs.Names.{Absent, Act, AllByRecursion, AllZip, AllZip-long, Answers, AreCountsOf, AreMerged, AreSumsOf, Asked, Bool, ClassSpec, Entry, Got, HasPlayed, HaveAllCalls, HavePlayed, IsAsAsked, IsAsked, IsMerge, Kept, List, Lost, Misses, Missing, Outcome, Parts, PassMemo, Report, Round, SetMode, StandsIn, State, Turn, [], all_losses, ap, arith, at_length, at_map_back, below_or, calls_by, calls_in, changes, class_of, entries_by, entries_from, entries_of, fate_of, fates_in, filter, filter-append, first_fitting, fun_ext, get_elem?, get_or_past, if◌then◌else◌, inl, inr, is_lost_report, length, length-append, length-map, lines_of, losses_from, losses_in, lost_events, lost_reports, map, missed_by, misses_context, missing_by, nat_lt, or_at, plain_act, refl, reports, sets, sizes_in, some, subst, suc, sum_by, sum_by-cons, sym, ticks_of, too_small, zero, ℕ, ◌+◌, ◌<◌, ◌∙◌, ◌∷◌, ◌≡◌, ◌≤◌}
use Rattle.main_function.specs.declared.rest.Totals.{Totals}
use Rattle.trace_replay.proofs.RestLemmas.{of_one, of_none, calls_in_log}

-- ---- what was asked

-- an outcome answers its line
line_at_call : (sizes : List ℕ) (lines : List Asked) (log : List Outcome) (call : ℕ) (outcome : Outcome) → AllZip (Answers sizes) lines log
    → get_elem? log call ≡ some outcome → (asked : Asked) × (get_elem? lines call ≡ some asked) × Answers sizes asked outcome
line_at_call sizes (asked ∷ lines) (first ∷ log) zero outcome all at = let same : first ≡ outcome = cc in (asked, refl, rw (← same) all.0)
line_at_call sizes (asked ∷ lines) (first ∷ log) (suc call) outcome all at = line_at_call sizes lines log call outcome all.1 at
line_at_call sizes lines log call outcome all at = absurd (grind arith)

-- ---- lost reports

module _ (sizes : List ℕ) (rounds : List Round) (n : ℕ) where
  -- the losses of a caller's calls that are of reports
  lost_by : (i call : ℕ) (lines : List Asked) (log : List Outcome) → ((k j : ℕ) → j ≡ call + k → get_elem? (lines_of i rounds) j ≡ get_elem? lines k)
      → AllZip (Answers sizes) lines log → length (filter (is_lost_report rounds) (losses_from n i call (map fate_of log))) ≡ lost_reports lines log
  lost_by i call [] [] own all = refl
  lost_by i call (reports event count stamp bytes ∷ lines) (Lost claimed ∷ log) own all =
      rw (own 0 call (omega arith)) (omega (arith, lost_by i (suc call) lines log (λ k j is. own (suc k) j (omega (arith, is))) all.1))
  lost_by i call (asked ∷ lines) (outcome ∷ log) own all =
      let rest = lost_by i (suc call) lines log (λ k j is. own (suc k) j (omega (arith, is))) all.1 in
      let here = own 0 call (omega arith) in grind (arith, rest, here)
  lost_by i call lines log own all = absurd all

  -- and those of all passes
  lost_by_all : (i : ℕ) (passes : List PassMemo) → ((k j : ℕ) (pass : PassMemo) → j ≡ i + k → get_elem? passes k ≡ some pass → HasPlayed sizes (lines_of j rounds) pass)
      → length (filter (is_lost_report rounds) (all_losses n i (map fates_in passes))) ≡ sum_by lost_events passes
  lost_by_all i [] each = refl
  lost_by_all i (pass ∷ passes) each =
      let its = each 0 i pass (omega arith) refl in
      let here = lost_by i 0 (lines_of i rounds) pass.log (λ k j is. let same : j ≡ k = omega (arith, is) in rw same refl) its.each in
      let rest = lost_by_all (suc i) passes (λ k j p is. each (suc k) j p (omega (arith, is))) in
      simp (filter-append, length-append) (omega (arith, here, rest, its.lost_events_are, sum_by-cons lost_events pass passes))

-- ---- missing contexts

-- the entry misses its context
abbrev missed : Entry (List ℕ) → Bool
missed e = misses_context e.act

-- how many entries of callers from one on miss their contexts
abbrev missed_from : ℕ → List (Entry (List ℕ)) → ℕ
missed_from i [] = 0
missed_from i (e ∷ es) = (if nat_lt e.caller i then 0 else (if missed e then 1 else 0)) + missed_from i es

-- from the first caller on they are all that do; they are those of one caller, and of the callers after it; and none, where all callers stand before that one
missed_parts : (i : ℕ) (es : List (Entry (List ℕ))) → (length (filter missed es) ≡ missed_from 0 es)
    × (missed_from i es ≡ length (filter missed (entries_by i es)) + missed_from (suc i) es)
    × (((e : Entry (List ℕ)) → StandsIn es e → e.caller < i) → missed_from i es ≡ 0)
missed_parts i [] = (refl, refl, λ within. refl)
missed_parts i (e ∷ es) =
    let rest = missed_parts i es in (
      grind (arith, rest),
      grind (arith, rest),
      λ within. let none = rest.2 (λ x stands. within x (suc stands.0, stands.1)) in let low = within e (0, refl) in grind (arith, none, low),
    )

-- an act misses its context where it does as plain data
missed_plainly : (act : Act) → (if misses_context (plain_act act) then 1 else 0) ≡ missed_by act
missed_plainly (Report event count stamp (Missing numbers)) = refl
missed_plainly act = refl

-- the entries of a log miss as many contexts as it
missed_in : (caller call : ℕ) (log : List Outcome) → length (filter missed (entries_from caller call (calls_in log))) ≡ missing_by log
missed_in caller call [] = refl
missed_in caller call (Lost claimed ∷ log) = missed_in caller (suc call) log
missed_in caller call (Got ticket item ∷ log) =
    let rest = missed_in caller (suc call) log in
    let one = missed_plainly item.payload in grind (arith, rest, one)

-- and those of all passes
missed_by_all : (es : List (Entry (List ℕ))) (i : ℕ) (passes : List PassMemo) → ((e : Entry (List ℕ)) → StandsIn es e → e.caller < i + length passes)
    → ((k j : ℕ) (pass : PassMemo) → j ≡ i + k → get_elem? passes k ≡ some pass → entries_by j es ≡ entries_from j 0 (calls_in pass.log))
    → missed_from i es ≡ sum_by (λ pass. missing_by pass.log) passes
missed_by_all es i [] within each = (missed_parts i es).2 (λ e stands. omega (arith, within e stands))
missed_by_all es i (pass ∷ passes) within each =
    let here = ap (λ xs. length (filter missed xs)) (each 0 i pass (omega arith) refl) ∙ missed_in i 0 pass.log in
    let rest = missed_by_all es (suc i) passes (λ e stands. omega (arith, within e stands)) (λ k j p is. each (suc k) j p (omega (arith, is))) in
    omega (arith, (missed_parts i es).1, here, rest, sum_by-cons (λ (p : PassMemo). missing_by p.log) pass passes)

-- ---- all together

-- a caller beyond those of the rounds has no lines
pub no_lines : (n caller : ℕ) (rounds : List Round) → AllByRecursion (λ round. length round.lines ≡ n) rounds → n ≤ caller
    → lines_of caller rounds ≡ []
no_lines n caller [] each past = refl
no_lines n caller (round ∷ rounds) each past =
    rw (get_or_past round.lines caller [] (omega (arith, each.0, past))) (no_lines n caller rounds each.1 past)

module _ (sizes : List ℕ) (rounds : List Round) (passes : List PassMemo) (n : ℕ) (lines : AllByRecursion (λ round. length round.lines ≡ n) rounds)
    (all : length passes ≡ n) (played : (i : ℕ) (pass : PassMemo) → get_elem? passes i ≡ some pass → HasPlayed sizes (lines_of i rounds) pass) where
  -- each caller made as many calls as it has lines
  pub as_many_calls : (caller : ℕ) → length (calls_by passes caller) ≡ length (lines_of caller rounds)
  as_many_calls caller = elim (below_or passes caller) [
    | inl its ↦ rw (of_one calls_in_log passes caller [] its.0 its.1, length-map) (AllZip-long (Answers sizes) (lines_of caller rounds) its.0.log (played caller its.0 its.1).each)
    | inr past ↦ rw (of_none calls_in_log passes caller [] past, no_lines n caller rounds lines (omega (arith, past, all))) refl
  ]

module _ (config : Parts) (rounds : List Round) (turns : List Turn) (passes : List PassMemo)
    (small : (bytes : ℕ) → first_fitting bytes (sizes_in config) ≡ too_small config bytes)
    (each : AllByRecursion (λ round. length round.lines ≡ config.callers) rounds) (played : HavePlayed config rounds passes)
    (have : HaveAllCalls config passes turns) where
  -- an entry's act that is what was asked for is so as plain data
  plainly : (e : Entry (List ℕ)) → StandsIn (entries_of turns) e → (asked : Asked) (act : Act) → plain_act act ≡ e.act → IsAsked (sizes_in config) asked act → IsAsAsked config turns e.caller e.call asked (plain_act act)
  plainly e stands (reports event count stamp bytes) (Report its its_count its_stamp Absent) same is = is
  plainly e stands (reports event count stamp bytes) (Report its its_count its_stamp (Kept class claim buf)) same is =
      let place = at_map_back (λ (spec : ClassSpec). spec.size) config.classes class buf.size is.3.2 in
      let its = ap (λ (spec : ClassSpec). spec.size) (or_at config.classes class (class_of (0, 0)) place.0 place.1) in
      (is.0, is.1, is.2, record { some_bytes = is.3.0; kept_is = is.3.1; class_within = at_length config.classes class place.0 place.1; fits = omega (arith, is.3.3, place.2, its) })
  plainly e stands (reports event count stamp bytes) (Report its its_count its_stamp (Missing numbers)) same is =
      let as_many = length-map config.classes (λ (class : ClassSpec). class.size) in
      let legal = have.contexts.missing e (length bytes) numbers stands (subst (λ act. Misses act numbers) same refl) (omega (arith, small (length bytes), is.3.1, as_many)) in
      (is.0, is.1, is.2, (is.3.0, legal))
  plainly e stands (changes state) (State its) same is = is
  plainly e stands (sets event mode) (SetMode its its_mode) same is = is
  plainly e stands asked act same is = absurd is

  -- so what the passes did is a merge of the lines
  pub merged : {totals : Totals} → AreSumsOf turns totals → AreCountsOf passes totals → map (λ t. t.head.tick) turns ≡ ticks_of rounds
      → AllByRecursion (λ t. length t.entries ≤ config.ring) turns → IsMerge config rounds turns (losses_in config.ring passes)
  merged sums counts ticks few = record {
    calls = subst (λ calls. AreMerged config.ring calls turns (losses_in config.ring passes)) (fun_ext (as_many_calls (sizes_in config) rounds passes config.callers each played.all played.each)) have.merged;
    as_asked = λ e stands.
        let its = have.in_claim_order stands.0 e stands.1 in
        let line = line_at_call (sizes_in config) (lines_of e.caller rounds) its.0.log e.call (Got stands.0 its.1) (played.each e.caller its.0 its.2).each its.3 in
        let same = ap (λ (x : Entry (List ℕ)). x.act) its.4 in
        (line.0, line.1, subst (IsAsAsked config turns e.caller e.call line.0) same (plainly e stands line.0 its.1.payload same line.2));
    claims = have.contexts.claims;
    lost_events = sym sums.lost_events_are ∙ counts.lost_events_are ∙ sym (lost_by_all (sizes_in config) rounds config.ring 0 passes (λ i j pass is at. let same : j ≡ i = omega (arith, is) in rw same (played.each i pass at)));
    lost_contexts = sym sums.lost_contexts_are ∙ counts.lost_contexts_are ∙ sym ((missed_parts 0 (entries_of turns)).0 ∙ missed_by_all (entries_of turns) 0 passes
        (λ e stands. let its = have.in_claim_order stands.0 e stands.1 in omega (arith, at_length passes e.caller its.0 its.2))
        (λ i j pass is at. let same : j ≡ i = omega (arith, is) in rw same (have.accepted i ∙ ap (entries_from i 0) (of_one calls_in_log passes i [] pass at))));
    ticks_are = ticks;
    few = few;
  }
