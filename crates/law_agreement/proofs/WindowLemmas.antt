-- Aggregation adds no weight: what is sent and what lies in the open windows of all events weigh no more than what came.
use Rattle.law_agreement.proofs.Names.{◌≡◌, ◌==◌, ◌&&◌, ℕ, zero, suc, false, if◌then◌else◌, ◌+◌, ◌≤◌, not, Bool, List, [], ◌∷◌, length, Option, Some, None, option_to_list, ◌++◌, refl, arith, eq-eqb, filter, sum_by, Parts, event_at, plain_event, Item, item_in, Moment, closes, comes, sent, sampled, context_weight, weight, moment_weight}
use Rattle.std.proofs.lemmas.Bool.Decides.{nat_tests}
use Rattle.std.proofs.lemmas.List.{get_or_past}
use Rattle.std.proofs.lemmas.List.Sums.{sum_by-cons}
use Rattle.std.specs.Prelude.{nat_lt, is_some, option_map}
use Rattle.ids_config.specs.declared.parts.Aggregate.{Aggregate}
use Rattle.chain_spec.specs.{is_of, sum_of, closing_ticks, open_window, closing_item, kept_of, mode_at, first_under, Ending, endings, ended, given, items_where, reaches, passes}
use Rattle.chain_spec.specs.declared.fate.Fate.TheVariants.{InWindow, AtThreshold, Sent}
use Rattle.chain_spec.proofs.PassLemmas.{are_ways}

-- ---- sums over the numbers below a bound

-- the values at the numbers below n together
abbrev sum_below : (ℕ → ℕ) → ℕ → ℕ
sum_below f zero = 0
sum_below f (suc n) = sum_below f n + f n

-- where the value at one number alone changes, so does the sum
one_changed : (f g : ℕ → ℕ) (k : ℕ) → ((i : ℕ) → k == i ≡ false → g i ≡ f i) → (n : ℕ)
    → sum_below g n + (if nat_lt k n then f k else 0) ≡ sum_below f n + (if nat_lt k n then g k else 0)
one_changed f g k others zero = grind (arith, nat_tests)
one_changed f g k others (suc n) = grind (arith, nat_tests, one_changed f g k others n, others n)

-- ---- the open window of an event

-- the context data that a window keeps weigh no more than its items
kept_weighs : (last : Bool) (opener : Item) (more : List Item)
    → context_weight (kept_of last (λ item. item.context) (record { opener = opener; more = more })) ≤ context_weight opener.context + sum_by weight more
kept_weighs last opener [] = grind (arith)
kept_weighs last opener (x ∷ before) = grind (arith, kept_weighs last opener before, sum_by-cons weight x before)

-- what lies in the open window of these items, if they are aggregated
abbrev lies : Option Aggregate → List ℕ → List Item → ℕ
lies None ticks items = 0
lies (Some setting) ticks items = sum_by (sum_of weight) (option_to_list (open_window setting.interval ticks items))

-- a turn gives what lay in the window that it closes
closing_weighs : (setting : Option Aggregate) (tick : ℕ) (ticks : List ℕ) (items : List Item)
    → sum_by weight (option_to_list (closing_item setting tick ticks items)) + lies setting (tick ∷ ticks) items ≤ lies setting ticks items
closing_weighs setting tick ticks items = grind (arith, kept_weighs)

-- what is sent of it weighs as much at most
given_weighs : (end : Item → Ending) (given : Option Item) (past : List Ending) → ((item : Item) → (end item).item ≡ item)
    → sum_by weight (items_where (reaches Sent) (option_to_list (option_map end given) ++ past))
    ≤ sum_by weight (option_to_list given) + sum_by weight (items_where (reaches Sent) past)
given_weighs end given past same = grind (arith, same, sum_by-cons weight)

-- the items of an event that came to its windows
abbrev to_windows : ℕ → List Ending → List Item
to_windows event past = filter (is_of event) (items_where (reaches InWindow) past)

-- an item that comes joins a window or is sent, and not both
coming_weighs : (setting : Option Aggregate) (event : ℕ) (ticks : List ℕ) (one : Ending) (past : List Ending)
    → passes InWindow one ≡ (reaches InWindow one && not (is_some setting))
    → sum_by weight (items_where (reaches Sent) (one ∷ past)) + lies setting ticks (to_windows event (one ∷ past))
    ≤ weight one.item + sum_by weight (items_where (reaches Sent) past) + lies setting ticks (to_windows event past)
coming_weighs setting event ticks one past let_pass = grind (arith, nat_tests, let_pass, sum_by-cons weight)

-- it joins no window of another event
joins_no_other : (event : ℕ) (one : Ending) (past : List Ending) → one.item.event == event ≡ false
    → to_windows event (one ∷ past) ≡ to_windows event past
joins_no_other event one past other = grind (arith, other)

-- ---- all events

module _ (config : Parts) where
  -- what lies in an event's open window after these moments
  abbrev open_weight : List Moment → ℕ → ℕ
  open_weight moments event = lies (event_at config event).aggregate (closing_ticks event moments) (sampled config event moments)

  -- no window is open at first
  none_open : (n : ℕ) → sum_below (open_weight []) n ≡ 0
  none_open zero = refl
  none_open (suc n) = grind (arith, none_open n)

  -- what is sent and what lies in the open windows weigh no more than what came
  abbrev Weighs : List Moment → Type 0
  Weighs moments = sum_by weight (sent config moments) + sum_below (open_weight moments) (length config.events) ≤ sum_by moment_weight moments

  -- a moment changes the windows of one event alone, which has none if it is not configured
  weighs_more : (event : ℕ) (moment : Moment) (before : List Moment)
      → ((other : ℕ) → event == other ≡ false → open_weight (moment ∷ before) other ≡ open_weight before other)
      → sum_by weight (sent config (moment ∷ before)) + open_weight (moment ∷ before) event
      ≤ moment_weight moment + sum_by weight (sent config before) + open_weight before event
      → Weighs before → Weighs (moment ∷ before)
  weighs_more event moment before others own rest =
      let changed = one_changed (open_weight before) (open_weight (moment ∷ before)) event others (length config.events) in
      let none : length config.events ≤ event → open_weight before event ≡ 0 = λ past. rw (get_or_past config.events event (plain_event 0 0) past) refl in
      grind (arith, nat_tests, changed, own, rest, none, sum_by-cons moment_weight moment before)

  pub moments_weigh : (moments : List Moment) → Weighs moments
  moments_weigh [] = omega (arith, none_open (length config.events))
  moments_weigh (closes tick event ∷ before) =
      let past = endings config before in
      let sends = given_weighs (ended config before past AtThreshold) (given config before past tick event) past (λ item. refl) in
      let gives = closing_weighs (event_at config event).aggregate tick (closing_ticks event before) (sampled config event before) in
      weighs_more event (closes tick event) before (λ other off. grind (arith, off)) (grind (arith, gives, eq-eqb event event refl, sends)) (moments_weigh before)
  moments_weigh (comes item ∷ before) =
      let event = item.event in
      let past = endings config before in
      let mode = mode_at config event before in
      let kept = item_in mode item in
      let one = ended config before past (first_under mode) kept in
      let less : weight kept ≤ weight item = grind (arith) in
      let own = coming_weighs (event_at config event).aggregate event (closing_ticks event before) one past
      (are_ways config (comes item ∷ before)).0.joins in
      weighs_more event (comes item) before (λ other off. rw (joins_no_other other one past off) refl) (omega (arith, own, less)) (moments_weigh before)
  moments_weigh (moment ∷ before) = omega (arith, moments_weigh before, sum_by-cons moment_weight moment before)
