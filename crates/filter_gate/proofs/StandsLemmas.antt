-- A gate that stands for some moments, and one moment more.
use Rattle.filter_gate.proofs.Names.{◌≡◌, ℕ, ◌<◌, ◌+◌, ◌%◌, ◌==◌, ◌&&◌, not, Bool, List, ◌∷◌, ◌++◌, length, filter, Option, Some, option_map, option_to_list, if◌then◌else◌, refl, ap, arith, suc-mod, nat_tests, Event, Parts, event_at, Gate, row_at, verdict_on, after_asking, gate_asked, row_after, Stands}
use Rattle.std.proofs.lemmas.Grind.{common_steps}
use Rattle.ids_types.specs.declared.mode.Mode.{Mode}
use Rattle.ids_types.specs.declared.mode.Mode.TheVariants.{Off}
use Rattle.chain_spec.specs.{is_filtered, is_bypassing, is_detailed, mode_at, state_at, item_in, is_blocked, Item, is_of, number_of, Moment, closes, comes}
use Rattle.chain_spec.specs.Fates.{steps_from, first_that}
use Rattle.chain_spec.specs.Lists.{arrivals}
use Rattle.chain_spec.specs.Steps.{holds, is_nth}
use Rattle.chain_spec.specs.Way.{Ending, ending_at, endings, ended, first_under, given, items_where, reaches, seen_at}
use Rattle.chain_spec.specs.declared.fate.Fate.{Fate}
use Rattle.chain_spec.specs.declared.fate.Fate.TheVariants.{AtMode, AtBlock, AtNth, AtThreshold}
use Rattle.filter_gate.specs.Gate.{row_with, lets_in}
use Rattle.filter_gate.specs.Stands.{ending_under, ending_by}
use Rattle.filter_gate.specs.declared.verdict.Verdict.TheVariants.{Held, Bypass, Pass}

-- ---- one item, over plain variables

-- the ending by the verdict under each mode, over any tests of the steps, and whether it reached every nth
told_under : (mode : Mode) (nth : Bool) (test : Item → Fate → Bool) (item : Item) → let kept = item_in mode item in
    test kept AtMode ≡ not (is_filtered mode) → test kept AtNth ≡ not nth
    → let onward = λ (first : Fate) (item : Item). first_that (test item) (steps_from first) in
    let verdict = if is_bypassing mode then Bypass (is_detailed mode) else if not (is_filtered mode) then Held AtMode
    else if test kept AtBlock then Held AtBlock else if nth then Pass (is_detailed mode) else Held AtNth in
    let one : Ending = record { item = kept; first = first_under mode; fate = onward (first_under mode) kept } in
    (one ≡ ending_under mode onward verdict item) × (reaches AtNth one ≡ is_filtered mode && not (test kept AtBlock))
told_under Off nth test item by_mode by_nth = grind (arith, by_mode)
told_under _ nth test item by_mode by_nth = grind (arith, by_mode, by_nth)

-- one ending more, which reached every nth if its event is one of those that pass
number_more : (k : ℕ) (passes : ℕ → Bool) (one : Ending) (past : List Ending) → reaches AtNth one ≡ passes one.item.event
    → let number = λ (endings : List Ending). number_of k (items_where (reaches AtNth) endings) in
    number (one ∷ past) ≡ (if one.item.event == k && passes k then number past + 1 else number past)
number_more k passes one past reached = grind (arith, nat_tests, reached)

-- one arrival more, counted from the last nth one
rank : (n nth : ℕ) → (n % nth + 1) % nth ≡ (n + 1) % nth
rank n nth = grind (arith, suc-mod n nth)

-- the row of an event after an item more, which is its own or another's
row_more : (event : Event) (mode : Mode) (own : Bool) (state number : ℕ) → let row = row_with event mode (number % event.nth) in
    row_with event mode ((if own && lets_in state row then number + 1 else number) % event.nth) ≡ (if own then after_asking state row else row)
row_more event mode own state number = grind (arith, rank number event.nth)

-- what a window gives did not come to a gate
not_arrived : (config : Parts) (before : List Moment) (past : List Ending) (k : ℕ) (given : Option Item)
    → filter (is_of k) (items_where (reaches AtNth) (option_to_list (option_map (ended config before past AtThreshold) given) ++ past))
    ≡ filter (is_of k) (items_where (reaches AtNth) past)
not_arrived config before past k given = grind arith

-- ---- a gate

module _ (config : Parts) (before : List Moment) where
  -- an item of this event passes reporting mode and block state
  abbrev passes : ℕ → Bool
  passes k = is_filtered (mode_at config k before) && not (is_blocked config k before)

  -- the ending by the verdict of these moments, and whether it reached every nth
  told : (item : Item) → let mode = mode_at config item.event before in
      let verdict = verdict_on (state_at config before) (row_after config before item.event) in
      (ending_at config before (comes item) ≡ Some (ending_by config before verdict item))
      × (reaches AtNth (ended config before (endings config before) (first_under mode) (item_in mode item)) ≡ passes item.event)
  told item =
      let event = item.event in
      let mode = mode_at config event before in
      let number = length (arrivals config event before) in
      let nth = (event_at config event).nth in
      let holding = λ (item : Item) (step : Fate). holds config step (seen_at before (endings config before) step) item in
      let under = told_under mode (is_nth nth number) holding item refl refl in
      rw (rank number nth) (ap Some under.0, under.1)

  -- the ending of an item of event k by the verdict of a gate that stands
  pub ending_is : (item : Item) (gate : Gate) (k : ℕ) → item.event ≡ k → k < length gate.rows → Stands config before gate
      → ending_at config before (comes item) ≡ Some (ending_by config before (verdict_on gate.state (row_at gate k)) item)
  ending_is item gate k is within stands = rw (stands.state, stands.rows k within, ← is) (told item).0

  -- the row of an event after an item more
  row_then : (item : Item) (k : ℕ) → row_after config (comes item ∷ before) k
      ≡ (if item.event == k then after_asking (state_at config before) (row_after config before k) else row_after config before k)
  row_then item k =
      let mode = mode_at config item.event before in
      let past = endings config before in
      rw (number_more k passes (ended config before past (first_under mode) (item_in mode item)) past (told item).1)
      (row_more (event_at config k) (mode_at config k before) (item.event == k) (state_at config before) (length (arrivals config k before)))

  -- the gate after an item of event k
  pub stands_with_item : (item : Item) (gate : Gate) (k : ℕ) → item.event ≡ k → k < length gate.rows → Stands config before gate
      → Stands config (comes item ∷ before) (gate_asked k gate)
  stands_with_item item gate k is within stands = record {
    state = stands.state;
    events = grind (arith, common_steps, stands.events);
    rows = λ j below. rw (row_then item j, stands.state, stands.rows k within)
        (let was = stands.rows j in grind (arith, common_steps, is, was));
  }

  -- that windows close is nothing to a gate
  pub stands_with_closing : (tick event : ℕ) (gate : Gate) → Stands config before gate → Stands config (closes tick event ∷ before) gate
  stands_with_closing tick event gate stands = record {
    state = stands.state;
    events = stands.events;
    rows = λ k within.
        let past = endings config before in
        rw (not_arrived config before past k (given config before past tick event)) (stands.rows k within);
  }
