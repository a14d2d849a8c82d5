-- What comes to each step and what passes it, over the endings of a history.
use Rattle.std.specs.Prelude.{◌||◌}
use Rattle.chain_spec.proofs.Names.{sym, sum_by, is_some, event_at, holds, seen_at, InWindow, by_window, ◌≡◌, ℕ, ◌+◌, ◌≤◌, ◌&&◌, Bool, true, false, not, List, [], ◌∷◌, length, map, filter, refl, ap, ◌∙◌, arith, nat_tests, AllByRecursion, Parts, is_of, number_of, Moment, account_by, account_of, ended_at, number_at, weighed, sent_of, Fate, AtMode, AtThreshold, AtSend, AtRate, AtTraffic, Sent, begins, last_filter, place_of, Ending, endings, begun_at, ends_at, reaches, passes, items_where, reached, qualified, candidates, sent}
use Rattle.std.proofs.lemmas.List.Recursion.{is_count_by}
use Rattle.chain_spec.specs.Limits.{Candidate, passes_rate, passes_traffic}
use Rattle.chain_spec.proofs.StepLemmas.{IsWay, ending_holds}

pub are_ways : (config : Parts) (moments : List Moment) → AllByRecursion (IsWay config) (endings config moments)
are_ways config [] = tt
are_ways config (moment ∷ before) =
    let rest = are_ways config before in
    ending_holds config before (AllByRecursion (IsWay config)) rest (λ one ends. (ends.way, rest)) moment

module _ (config : Parts) where
  -- what comes to a step ends there or passes it
  pub reaches_split : (step : Fate) (one : Ending) → IsWay config one
      → (reaches step one ≡ (ends_at step one || passes step one)) × ((ends_at step one && passes step one) ≡ false)
  reaches_split step one is = (grind (arith, nat_tests, is), grind (arith, nat_tests, is))

  -- what comes to a step passed the one before it or began there
  pub next_split : (step after : Fate) → place_of after ≡ place_of step + 1 → (one : Ending) → IsWay config one
      → (reaches after one ≡ (passes step one || begun_at after one)) × ((passes step one && begun_at after one) ≡ false)
  next_split step after by one is = (grind (arith, nat_tests, is), grind (arith, nat_tests, is))

  -- no way begins at another step
  begins_none : (step : Fate) → begins step ≡ false → (one : Ending) → IsWay config one → begun_at step one ≡ false
  begins_none step none one is = grind (arith, nat_tests, is, none)

  -- so what comes to it passed the one before it
  next_passes : (step after : Fate) → place_of after ≡ place_of step + 1 → begins after ≡ false → (one : Ending) → IsWay config one
      → reaches after one ≡ passes step one
  next_passes step after by none one is = grind (arith, begins_none after none one is, next_split step after by one is)

  -- ---- lists and numbers

  -- what splits in two is as many as both together
  count_split : (event : ℕ) (whole one_part other : Ending → Bool)
      → ((one : Ending) → IsWay config one → (whole one ≡ (one_part one || other one)) × ((one_part one && other one) ≡ false))
      → (past : List Ending) → AllByRecursion (IsWay config) past
      → number_of event (items_where whole past) ≡ number_of event (items_where one_part past) + number_of event (items_where other past)
  count_split event whole one_part other split [] are = grind arith
  count_split event whole one_part other split (one ∷ past) are =
      grind (arith, nat_tests, split one are.0, count_split event whole one_part other split past are.1)

-- ---- lists of endings

-- tests that agree on each take the same
pub agree_on : (IsSo : Ending → Type 0) (test other : Ending → Bool) → ((one : Ending) → IsSo one → test one ≡ other one)
    → (past : List Ending) → AllByRecursion IsSo past → filter test past ≡ filter other past
agree_on IsSo test other same [] are = refl
agree_on IsSo test other same (one ∷ past) are = grind (arith, same one are.0, agree_on IsSo test other same past are.1)

none_pass : (past : List Ending) → filter (λ one. false) past ≡ []
none_pass [] = refl
none_pass (one ∷ past) = none_pass past

-- a number of an account is one of items
pub counted_where : (event : ℕ) (test : Ending → Bool) (past : List Ending)
    → length (filter test (filter (λ one. is_of event one.item) past)) ≡ number_of event (items_where test past)
counted_where event test [] = refl
counted_where event test (one ∷ past) = grind (arith, counted_where event test past)

ended_number : (config : Parts) (step : Fate) (told : List Ending) → ended_at step (account_by config told) ≡ number_at step told
ended_number config AtMode told = refl
ended_number config _ told = refl

module _ (config : Parts) where
  pub agree_where : (test other : Ending → Bool) → ((one : Ending) → IsWay config one → test one ≡ other one)
      → (moments : List Moment) → items_where test (endings config moments) ≡ items_where other (endings config moments)
  agree_where test other same moments =
      ap (map (λ one. one.item)) (agree_on (IsWay config) test other same (endings config moments) (are_ways config moments))

  -- what comes to a step ends there or passes it
  pub step_sizes : (event : ℕ) (moments : List Moment) (step : Fate) → number_of event (reached config step moments)
      ≡ ended_at step (account_of config event moments) + number_of event (items_where (passes step) (endings config moments))
  step_sizes event moments step =
      let past = endings config moments in
      rw (ended_number config step (filter (λ one. is_of event one.item) past), counted_where event (ends_at step) past)
      (count_split config event (reaches step) (ends_at step) (passes step) (reaches_split config step) past (are_ways config moments))

  -- what comes to the next step passed this one, or began there
  pub next_sizes : (event : ℕ) (moments : List Moment) (step after : Fate) → place_of after ≡ place_of step + 1
      → number_of event (reached config after moments)
      ≡ number_of event (items_where (passes step) (endings config moments)) + number_of event (items_where (begun_at after) (endings config moments))
  next_sizes event moments step after by =
      count_split config event (reaches after) (passes step) (begun_at after) (next_split config step after by) (endings config moments) (are_ways config moments)

  pub none_begun : (moments : List Moment) (step : Fate) → begins step ≡ false → items_where (begun_at step) (endings config moments) ≡ []
  none_begun moments step none = agree_where (begun_at step) (λ one. false) (begins_none config step none) moments ∙ ap (map (λ one. one.item)) (none_pass (endings config moments))

  pub reached_next : (step after : Fate) → place_of after ≡ place_of step + 1 → begins after ≡ false → (moments : List Moment)
      → reached config after moments ≡ items_where (passes step) (endings config moments)
  reached_next step after by none = agree_where (reaches after) (passes step) (next_passes config step after by none)

  -- what is qualified passed the last filter or began at the sending, and nothing did both
  pub qualified_either : (moments : List Moment)
      → qualified config moments ≡ items_where (λ one. passes last_filter one || begun_at AtSend one) (endings config moments)
  qualified_either = agree_where (reaches AtSend) (λ one. passes last_filter one || begun_at AtSend one) (λ one is. (next_split config last_filter AtSend refl one is).0)

  pub never_both : (moments : List Moment) → items_where (λ one. passes last_filter one && begun_at AtSend one) (endings config moments) ≡ []
  never_both moments = agree_where (λ one. passes last_filter one && begun_at AtSend one) (λ one. false)
      (λ one is. (next_split config last_filter AtSend refl one is).1) moments ∙ ap (map (λ one. one.item)) (none_pass (endings config moments))

  -- ---- limits

  -- what is sent of candidates is what both limits let pass, one after the other
  abbrev AreSent : (came let_out : Ending → Bool) → List Ending → Type 0
  AreSent came let_out past =
      map (weighed config) (items_where let_out past) ≡ sent_of config.rate config.traffic (map (weighed config) (items_where came past))

  sent_more : (came let_out : Ending → Bool) (one : Ending) (past : List Ending)
      → let_out one ≡ (came one && not (not (passes_rate config.rate (map (weighed config) (items_where came past)) (weighed config one.item)))
      && not (not (passes_traffic config.traffic (map (weighed config) (items_where let_out past)) (weighed config one.item))))
      → AreSent came let_out past → AreSent came let_out (one ∷ past)
  sent_more came let_out one past is rest = grind (arith, is, rest)

  are_sent : (moments : List Moment) → AreSent (reaches AtRate) (passes AtTraffic) (endings config moments)
  are_sent [] = refl
  are_sent (moment ∷ before) = ending_holds config before (AreSent (reaches AtRate) (passes AtTraffic)) (are_sent before) (λ one ends.
      sent_more (reaches AtRate) (passes AtTraffic) one (endings config before)
      (rw (ends.let_pass AtTraffic, next_passes config AtRate AtTraffic refl refl one ends.way, ends.let_pass AtRate) refl) (are_sent before)) moment

  -- the limits let pass of the candidates what is sent
  pub sent_weighed : (moments : List Moment)
      → map (weighed config) (sent config moments) ≡ sent_of config.rate config.traffic (map (weighed config) (candidates config moments))
  sent_weighed moments = rw (reached_next AtTraffic Sent refl refl moments) (are_sent moments)

-- candidates that count once each
pub ones_counted : (before : List Candidate) → sum_by (λ one. 1) before ≡ length before
ones_counted before = sym (is_count_by length (λ one. true) refl (λ one rest. omega arith) before)

-- what a qualified event is, what is sent, and how many items each step held and let pass
pub ruleset qualified_laws = (qualified_either, never_both)

pub ruleset limit_laws = (ones_counted, nat_tests, sent_weighed)

pub ruleset size_laws = (step_sizes, next_sizes, none_begun)
