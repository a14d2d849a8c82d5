-- Windows of items that close: each gives its one item at the first tick of a turn at which it is due.
use Rattle.chain_spec.proofs.Names.{◌≡◌, ℕ, suc, ◌+◌, ◌<◌, ◌≤◌, not, Bool, true, false, List, [], ◌∷◌, ◌++◌, length, filter, filter_map, flat_map, Option, Some, None, is_some, nat_le, option_to_list, option_and_then, option_map, if◌then◌else◌, refl, ap, ◌∙◌, arith, sum_by, sum_by-cons, append-nil, AllByRecursion, list_any, Aggregate, closed_item, first_from, newest_where, Item, is_of, Window, EndBy, opened, members, with_item, windows_of, where_true, drop, nat_tests, openers, is_due, joined, closing_item}
use Rattle.std.proofs.lemmas.List.Concat.{length-flat_map}
use Rattle.chain_spec.proofs.CoverLemmas.{end_later, newest_decides}

-- the tick of an item
abbrev pub tick_at : Item → ℕ
tick_at item = item.tick

-- ---- windows of one event

-- the windows of an event's items are opened by such
windows_of_own : (event interval : ℕ) (items : List Item)
    → AllByRecursion (λ item. is_of event item ≡ true) (openers (windows_of tick_at interval (filter (is_of event) items)))
windows_of_own event interval [] = tt
windows_of_own event interval (item ∷ items) = grind (arith, windows_of_own event interval items)

-- what a turn gives of the event is the event's own, and the event is aggregated
pub closing_is : (setting : Option Aggregate) (event tick : ℕ) (ticks : List ℕ) (items : List Item) (item : Item)
    → closing_item setting tick ticks (filter (is_of event) items) ≡ Some item → (item.event ≡ event) × (is_some setting ≡ true)
closing_is None event tick ticks items item is = cc
closing_is (Some setting) event tick ticks items item is = grind (arith, nat_tests, is, windows_of_own event setting.interval items)

-- ---- the first of some ticks

-- there is a first one exactly if one of the ticks is late enough
any_is_first : (least : ℕ) (ticks : List ℕ) → list_any (λ tick. nat_le least tick) ticks ≡ is_some (first_from least ticks)
any_is_first least [] = refl
any_is_first least (tick ∷ before) = grind (arith, any_is_first least before)

-- none, if all ticks are too early
none_first : (least n : ℕ) (ticks : List ℕ) → n < least → EndBy (λ tick. tick) n ticks
    → (first_from least ticks ≡ None) × (list_any (λ tick. nat_le least tick) ticks ≡ false)
none_first least n [] less by = (refl, refl)
none_first least n (tick ∷ before) less by = grind (arith, nat_tests, by, none_first least tick before)

-- ---- windows by the ticks of turns

module _ (setting : Aggregate) where
  -- a turn at one of these ticks closed the window
  abbrev closed_by : List ℕ → Window Item → Bool
  closed_by ticks w = list_any (λ tick. is_due setting.interval tick w) ticks

  -- no turn did
  abbrev pub stays : List ℕ → Window Item → Bool
  stays ticks w = not (closed_by ticks w)

  -- each window has closed
  abbrev AreClosed : List ℕ → List (Window Item) → Type 0
  AreClosed ticks ws = AllByRecursion (λ w. is_some (first_from (w.opener.tick + setting.interval) ticks) ≡ true) ws

  -- each window that closed gives one item
  one_for_each : (ticks : List ℕ) (ws : List (Window Item)) → length (filter_map (closed_item setting ticks) ws) ≡ length (filter (closed_by ticks) ws)
  one_for_each ticks [] = refl
  one_for_each ticks (w ∷ ws) = grind (arith, any_is_first (w.opener.tick + setting.interval) ticks, one_for_each ticks ws)

  -- of windows that closed, all closed
  all_closed : (ticks : List ℕ) (ws : List (Window Item)) → AreClosed ticks ws → filter (closed_by ticks) ws ≡ ws
  all_closed ticks [] closed = refl
  all_closed ticks (w ∷ ws) closed = grind (arith, any_is_first (w.opener.tick + setting.interval) ticks, closed.0, all_closed ticks ws closed.1)

  -- what has closed is not closed again
  closed_more : (tick : ℕ) (ticks : List ℕ) (ws : List (Window Item)) → AreClosed ticks ws
      → (filter_map (closed_item setting (tick ∷ ticks)) ws ≡ filter_map (closed_item setting ticks) ws) × AreClosed (tick ∷ ticks) ws
  closed_more tick ticks [] closed = (refl, tt)
  closed_more tick ticks (w ∷ ws) closed = grind (arith, closed, closed_more tick ticks ws closed.1)

  -- at a tick: the items of an event are those of its windows by the ticks of turns, none of which is later, each
  -- window but the newest has closed, and so many items wait in the open one
  pub record StandsBy (t : ℕ) (ticks : List ℕ) (ws : List (Window Item)) (items : List Item) (waiting : ℕ) : Type 0 where
    pub same : items ≡ filter_map (closed_item setting ticks) ws
    pub below : EndBy (λ tick. tick) t ticks
    pub opens : EndBy (λ w. w.opener.tick) t ws
    pub older : AreClosed ticks (drop 1 ws)
    pub waits : waiting ≡ length (flat_map members (option_to_list (newest_where (stays ticks) ws)))

  -- it stands so at a later tick
  pub stands_later : (early late : ℕ) (ticks : List ℕ) (ws : List (Window Item)) (items : List Item) (waiting : ℕ) → early ≤ late
      → StandsBy early ticks ws items waiting → StandsBy late ticks ws items waiting
  stands_later early late ticks ws items waiting le h =
      record { same = h.same; below = end_later _ early late ticks le h.below; opens = end_later _ early late ws le h.opens; older = h.older; waits = h.waits }

  -- the items are as many as the windows that closed, and what these hold, and what the open one holds, is what all hold
  pub sizes_split : (t : ℕ) (ticks : List ℕ) (ws : List (Window Item)) (items : List Item) (waiting : ℕ) → StandsBy t ticks ws items waiting
      → (length items ≡ length (filter (closed_by ticks) ws))
      × (length (flat_map members ws) ≡ sum_by (λ w. length (members w)) (filter (closed_by ticks) ws) + waiting)
  sizes_split t ticks [] items waiting h = grind (arith, h)
  sizes_split t ticks (w ∷ ws) items waiting h =
      let one = sum_by-cons (λ w. length (members w)) w ws in (
        ap length h.same ∙ one_for_each ticks (w ∷ ws),
        grind (arith, length-flat_map members (w ∷ ws), all_closed ticks ws h.older, one, append-nil (members w), h),
      )

  -- what a turn at a tick closes, if other turns were at these ticks
  abbrev pub closed_at : ℕ → List ℕ → List (Window Item) → Option Item
  closed_at tick ticks ws =
      option_map (joined setting.last tick) (option_and_then (λ w. where_true (is_due setting.interval tick w) w) (newest_where (stays ticks) ws))

  -- a turn closes what is due
  pub stands_closing : (tick : ℕ) (ticks : List ℕ) (ws : List (Window Item)) (items : List Item) (waiting : ℕ)
      → StandsBy tick ticks ws items waiting → StandsBy tick (tick ∷ ticks) ws (option_to_list (closed_at tick ticks ws) ++ items)
      (if is_some (closed_at tick ticks ws) then 0 else waiting)
  stands_closing tick ticks [] items waiting h = grind (arith, h)
  stands_closing tick ticks (w ∷ ws) items waiting h =
      grind (arith, any_is_first (w.opener.tick + setting.interval) ticks, closed_more tick ticks ws h.older, h)

  -- an item comes to the windows
  pub stands_arriving : (x : Item) (t : ℕ) (rest : List ℕ) (ws : List (Window Item)) (items : List Item) (waiting : ℕ) → 1 ≤ setting.interval
      → x.tick ≡ t → StandsBy t (t ∷ rest) ws items waiting → StandsBy t (t ∷ rest) (with_item tick_at setting.interval x ws) items (suc waiting)
  stands_arriving x t rest [] items waiting some at h =
      grind (arith, nat_tests, none_first (x.tick + setting.interval) t (t ∷ rest), h, at)
  stands_arriving x t rest (w ∷ ws) items waiting some at h =
      let decides = newest_decides tick_at setting.interval t x.tick w ws h.opens in
      let none_yet = λ (w : Window Item). none_first (w.opener.tick + setting.interval) t (t ∷ rest) in
      grind (arith, nat_tests, decides, none_yet (opened x), none_yet w, h, at)
