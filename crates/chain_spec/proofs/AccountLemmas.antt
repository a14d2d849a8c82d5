-- The accounts: each item that comes is told once, with one fate, so that the numbers of an event add up; and the numbers of
-- all events together.
use Rattle.chain_spec.proofs.Names.{among, AllByRecursion, AreConfigured, AtRate, AtSend, AtTraffic, Bool, Ending, Item, List, Moment, Parts, Sent, Turn, [], account_by, account_of, ap, arith, by_window, cases_lt, closes, comers, comes, counted, ended_at, endings, ends_at, event_at, events_in, filter, get_or_past, handed, handed_on, held, held_count, if◌then◌else◌, inl, inr, is_given, is_limited, is_of, is_stored, items_where, length, limited_events_in, map, nat_le, nat_lt, nat_tests, not, number_at, number_of, plain_event, range_with_len, reaches, refl, sent, stored, stored_of, stores, suc, sum, sum_by, sum_by-cons, sym, true, zero, ℕ, ◌&&◌, ◌+◌, ◌<◌, ◌==◌, ◌∙◌, ◌∷◌, ◌≡◌}
use Rattle.std.proofs.lemmas.List.Recursion.{is_sum_by, same_from_clauses}
use Rattle.chain_spec.proofs.EventLemmas.{windows_told}
use Rattle.chain_spec.proofs.GrowthLemmas.{held_counted}
use Rattle.chain_spec.proofs.PassLemmas.{agree_where, counted_where}
use Rattle.chain_spec.proofs.StepLemmas.{comes_holds, closes_holds}

-- ---- one event

module _ (config : Parts) where
  -- each item that comes is told once, in its place
  pub each_told : (moments : List Moment)
      → map counted (items_where (λ one. not (by_window one)) (endings config moments)) ≡ map counted (comers moments)
  each_told [] = refl
  each_told (comes item ∷ before) = comes_holds config before (λ past. map counted (items_where (λ one. not (by_window one)) past)
      ≡ counted item ∷ map counted (comers before)) item (λ one ends same came. rw (came, same, each_told before) refl)
  each_told (closes tick event ∷ before) = closes_holds config before (λ past. map counted (items_where (λ one. not (by_window one)) past)
      ≡ map counted (comers before)) tick event (λ none. each_told before) (λ one ends is own given. rw given (each_told before))
  each_told (_ ∷ before) = each_told before

  number_counted : (event : ℕ) (items : List Item) → number_of event items ≡ length (among event (map counted items))
  number_counted event [] = refl
  number_counted event (item ∷ items) = grind (arith, number_counted event items)

  pub came_counted : (event : ℕ) (moments : List Moment) → (account_of config event moments).came ≡ number_of event (comers moments)
  came_counted event moments =
      counted_where event (λ one. not (by_window one)) (endings config moments) ∙ number_counted event _
      ∙ ap (λ all. length (among event all)) (each_told moments) ∙ sym (number_counted event (comers moments))

  -- the endings are as many as those of all fates together
  all_ended : (told : List Ending) → let account = account_by config told in account.came + account.closed ≡ sum account.ended
  all_ended [] = refl
  all_ended (one ∷ told) = grind (arith, nat_tests, all_ended told)

  pub fates_add_up : (event : ℕ) (moments : List Moment) → let account = account_of config event moments in
      account.came + account.closed ≡ sum account.ended
  fates_add_up event moments = all_ended (filter (λ one. is_of event one.item) (endings config moments))

-- ---- sums over events

module _ (test : ℕ → Bool) (f g : ℕ → ℕ) (k : ℕ) (is : Bool) (more : (e : ℕ) → g e ≡ (if (k == e) && is then 1 else 0) + f e) where
  -- among the events from one on that pass the test it counts as one more, if it is one of them
  sum_among : (n first : ℕ) → sum_by g (filter test (range_with_len first n))
      ≡ (if is && nat_le first k && nat_lt k (first + n) && test k then 1 else 0) + sum_by f (filter test (range_with_len first n))
  sum_among zero first = grind (arith, nat_tests)
  sum_among (suc n) first =
      let others = filter test (range_with_len (first + 1) n) in
      grind (arith, nat_tests, more first, sum_among n (first + 1), sum_by-cons g first others, sum_by-cons f first others)

-- how many endings of these have a fate of those that a limit gives
limited_number : (told : List Ending) → number_at AtRate told + number_at AtTraffic told ≡ length (filter (λ one. is_limited one.fate) told)
limited_number [] = refl
limited_number (one ∷ told) = grind (arith, nat_tests, limited_number told)

module _ (config : Parts) where
  -- the events of endings are configured
  abbrev AreWithin : List Ending → Type 0
  AreWithin told = AllByRecursion (λ one. one.item.event < length config.events) told

  within : (moments : List Moment) → AreConfigured config moments → AreWithin (endings config moments)
  within [] all = tt
  within (closes tick event ∷ before) all = closes_holds config before AreWithin tick event (λ none. within before all) (λ one ends is own given.
      elim (cases_lt one.item.event (length config.events)) [
        | inl less ↦ (less, within before all)
        | inr past ↦ let some = rw (get_or_past config.events one.item.event (plain_event 0 0) past) at (ends.way.given given) in absurd (cc some)
      ])
  within (comes item ∷ before) all = comes_holds config before AreWithin item
      (λ one ends same came. (rw (ap (λ c. c.event) same) all.0, within before all.1))
  within (_ ∷ before) all = within before all

  -- over events that pass a test, the endings of each that are such are all of these together
  sum_told : (test : ℕ → Bool) (is_one : Ending → Bool) (told : List Ending) → AreWithin told
      → sum_by (λ event. length (filter is_one (filter (λ one. is_of event one.item) told))) (filter test (events_in config))
      ≡ length (items_where (λ one. is_one one && test one.item.event) told)
  sum_told test is_one [] all = sym (is_sum_by (λ (events : List ℕ). 0) (λ e. 0) refl (λ e events. refl) (filter test (events_in config)))
  sum_told test is_one (ending ∷ told) all =
      let rest = sum_told test is_one told all.1 in
      let among = sum_among test (λ e. length (filter is_one (filter (λ one. is_of e one.item) told)))
      (λ e. length (filter is_one (filter (λ one. is_of e one.item) (ending ∷ told)))) ending.item.event (is_one ending)
      (λ e. grind arith) (length config.events) 0 in
      grind (arith, nat_tests, among, all.0, rest)

  pub sent_over : (moments : List Moment) → AreConfigured config moments
      → sum_by (λ event. ended_at Sent (account_of config event moments)) (events_in config) ≡ length (sent config moments)
  sent_over moments all =
      ap (sum_by (λ event. ended_at Sent (account_of config event moments))) (same_from_clauses (λ (events : List ℕ). events) (filter (λ event. true)) (λ event events. event ∷ events) refl
      (λ e events. refl) (λ e events. refl) (events_in config))
      ∙ sum_told (λ event. true) (ends_at Sent) (endings config moments) (within moments all)
      ∙ ap length (agree_where config (λ one. ends_at Sent one && true) (reaches Sent)
      (λ one is. grind (arith, nat_tests, is)) moments)

  pub limited_over : (moments : List Moment) → AreConfigured config moments
      → sum_by (λ event. ended_at AtRate (account_of config event moments) + ended_at AtTraffic (account_of config event moments)) (limited_events_in config)
      ≡ length (held config moments)
  limited_over moments all =
      simp limited_number (sum_told (λ event. not (is_given config.limited event)) (λ one. is_limited one.fate) (endings config moments) (within moments all))

  pub handed_sums : (turns : List Turn) → sum (handed config turns) ≡ held_count config turns
  handed_sums [] = refl
  handed_sums (turn ∷ before) = omega (arith, held_counted config turn before, handed_sums before, sum_by-cons (λ (n : ℕ). n) (handed_on config (turn ∷ before)) (handed config before))

-- ---- what is stored

module _ (config : Parts) where
  -- the items that are stored, by whether there is no room for a record
  those_stored : (full : Bool) (told : List Ending)
      → items_where (λ one. stores config one && not full) told ≡ (if full then [] else items_where (stores config) told)
  those_stored full [] = grind arith
  those_stored full (ending ∷ told) = grind (arith, those_stored full told)

  pub stored_told : (moments : List Moment) → map (stored_of config) (items_where (is_stored config) (endings config moments))
      ≡ (if config.memory == 0 then [] else stored config moments)
  stored_told moments = grind (arith, those_stored (config.memory == 0) (endings config moments))

  pub number_stored : (event : ℕ) (told : List Ending) → number_of event (items_where (is_stored config) told)
      ≡ (if (event_at config event).store && not (config.memory == 0) then number_of event (items_where (reaches AtSend) told) else 0)
  number_stored event [] = grind arith
  number_stored event (ending ∷ told) = grind (arith, nat_tests, number_stored event told)

-- what windows hold, and what is stored
pub ruleset storing_laws = (windows_told, counted_where, number_stored, stored_told)

-- what is sent and held back of all events
pub ruleset sum_laws = (sent_over, limited_over, handed_sums)

-- each item is told once, and what became of the items adds up
pub ruleset account_laws = (came_counted, fates_add_up, each_told)
