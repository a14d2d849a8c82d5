-- The steps after the windows, with an ending more.
use Rattle.event_chain.proofs.Names.{true, false, ◌||◌, start_by, AtSend, verdict, Follows, ◌≤◌, BeginsBy, place_of, counted, AtThreshold, ThresholdsStand, LimitsStand, Rest, Weighs, nat_tests, if◌then◌else◌, ◌<◌, Source, source_of, source_in, plain_event, get_or-map, length-map, length, ◌≡◌, ℕ, Bool, List, [], ◌∷◌, map, refl, ap, arith, Parts, event_at, Moment, EndBy, Item, weighed, Ending, endings, fate_from, items_where, reaches, ended_tick, AtRate, AtTraffic, Sent, answer_to, end_of_some}
use Rattle.chain_spec.proofs.PassLemmas.{reached_next, sent_weighed}
use Rattle.chain_spec.proofs.StepLemmas.{fate_step, next}
use Rattle.chain_spec.specs.Steps.{holds}
use Rattle.chain_spec.specs.Way.{seen_at}
use Rattle.event_chain.specs.Names.{Fate}
use Rattle.event_chain.specs.Ready.{HasEvent}
use Rattle.std.specs.Prelude.{nat_le, not}

-- ticks stay where a list is taken over
pub end_mapped : {A B : Type 0} (tick_of : B → ℕ) (f : A → B) (tick : ℕ) (xs : List A) → EndBy (λ x. tick_of (f x)) tick xs
    → EndBy tick_of tick (map f xs)
end_mapped tick_of f tick [] by = tt
end_mapped tick_of f tick (x ∷ xs) by = (by.0, end_mapped tick_of f (tick_of (f x)) xs by.1)

-- the items of some endings end where all endings do
pub items_end : (test : Ending → Bool) (tick : ℕ) (past : List Ending) → EndBy ended_tick tick past
    → EndBy (λ item. item.tick) tick (items_where test past)
items_end test tick past by = end_mapped (λ (item : Item). item.tick) (λ (one : Ending). one.item) tick _ (end_of_some ended_tick test tick past by)

-- each source is that of its event
pub source_same : (config : Parts) (sources : List Source) (event : ℕ) → event < length sources → sources ≡ map source_of config.events
    → source_in sources event ≡ source_of (event_at config event)
source_same config sources event less is =
    rw is (get_or-map source_of config.events event (plain_event 0 0) _ (omega (arith, less, ap length is, length-map config.events source_of)))

-- the limits answer what the steps from the rate on make of an item
pub limits_say : (config : Parts) (before : List Moment) (item : Item) → let past = endings config before in
    answer_to config (map (weighed config) (items_where (reaches AtRate) past)) (weighed config item) ≡ fate_from config before past AtRate item
limits_say config before item = grind (arith, sent_weighed config before, reached_next config AtTraffic Sent refl refl before)

-- event k of a configuration has its place in each list
pub has_event : (config : Parts) (rest : Rest) (k : ℕ) → Follows config [] rest → k < length config.events → HasEvent k rest
has_event config rest k follows less =
    grind (arith, follows.steps.thresholds.events, ap length follows.sources, length-map config.events source_of, less)

-- ---- an ending more

-- the items that pass a test
where_more : (test : Ending → Bool) (one : Ending) (past : List Ending) (is : Bool) → test one ≡ is
    → items_where test (one ∷ past) ≡ (if is then one.item ∷ items_where test past else items_where test past)
where_more test one past true is = rw is refl
where_more test one past false is = rw is refl

-- what ended before the steps after the windows is nothing to them
pub weighs_early : (config : Parts) (past : List Ending) (one : Ending) {rest : Rest} → place_of one.fate < place_of AtThreshold
    → Weighs config past rest → Weighs config (one ∷ past) rest
weighs_early config past one early weighs = grind (arith, nat_tests, early, weighs)

-- the steps, with an ending more that came to them
pub weighs_more : (config : Parts) (past : List Ending) (bypasses : Bool) (one : Ending) (rest : Rest) (weighs : Bool) → BeginsBy bypasses one.first
    → place_of (start_by bypasses) ≤ place_of one.fate → nat_le (place_of AtRate) (place_of one.fate) ≡ weighs
    → let joined = map counted (items_where (reaches AtThreshold) past) in
    let to_send = map (weighed config) (items_where (reaches AtRate) past) in
    ThresholdsStand config (if bypasses then joined else counted one.item ∷ joined) rest.thresholds
    → LimitsStand config (if weighs then weighed config one.item ∷ to_send else to_send) rest.limits
    → Weighs config (one ∷ past) rest
weighs_more config past bypasses one rest weighs begins late is thresholds limits =
    let joins : reaches AtThreshold one ≡ not bypasses = grind (arith, nat_tests, begins.filters AtThreshold, late) in
    let comes : reaches AtRate one ≡ weighs = grind (arith, nat_tests, begins.sending, is) in
    record {
      thresholds = rw (where_more (reaches AtThreshold) one past _ joins) (grind (arith, thresholds));
      limits = rw (where_more (reaches AtRate) one past weighs comes) (grind (arith, limits));
    }

-- ---- what each step says

module _ (config : Parts) (before : List Moment) (item : Item) where
  abbrev past : List Ending
  past = endings config before

  -- a filter, to which what bypasses the filters does not come
  filter_says : (step : Fate) (bypasses let_pass : Bool) → let_pass ≡ bypasses || not (holds config step (seen_at before past step) item)
      → fate_from config before past (if bypasses then AtSend else step) item
      ≡ (if let_pass then fate_from config before past (if bypasses then AtSend else next step) item else step)
  filter_says step true let_pass is = rw is refl
  filter_says step false let_pass is = rw (fate_step config before past step item, is) (grind arith)

  pub threshold_says : (bypasses let_pass : Bool) → let_pass ≡ bypasses
      || verdict (event_at config item.event).threshold (counted item) (map counted (items_where (reaches AtThreshold) past))
      → fate_from config before past (start_by bypasses) item ≡ (if let_pass then fate_from config before past AtSend item else AtThreshold)
  threshold_says true let_pass is = filter_says AtThreshold true let_pass is
  threshold_says false let_pass is = filter_says AtThreshold false let_pass (rw is (grind arith))

  -- the sending
  pub sending_says : (send : Bool) → send ≡ (event_at config item.event).send
      → fate_from config before past AtSend item ≡ (if send then fate_from config before past AtRate item else AtSend)
  sending_says true is = rw (fate_step config before past AtSend item, ← is) refl
  sending_says false is = rw (fate_step config before past AtSend item, ← is) refl
