-- The slot of an event after one item more.
use Rattle.filter_aggregate.proofs.Names.{◌≡◌, ℕ, ◌+◌, ◌<◌, ◌≤◌, not, nat_le, false, List, [], ◌∷◌, Option, Some, None, IfSome, IsSome, option_map, refl, arith, list_any, All, Aggregate, Item, told_of, Window, EndBy, opened, windows_of, Open, Slot, has_passed, is_due, window_with, slot_with, kept_window, slot_after, nat_tests, newest_where}
use Rattle.std.proofs.lemmas.List.Folds.{list_any_none}
use Rattle.std.proofs.lemmas.List.Sums.{sum_by-cons}
use Rattle.chain_spec.proofs.CoverLemmas.{with_newest, windows_with}

-- no turn closed what is due at a later tick
none_from : (end tick : ℕ) (ticks : List ℕ) → All (λ n. n ≤ tick) ticks → tick < end → list_any (λ n. nat_le end n) ticks ≡ false
none_from end tick ticks by before =
    list_any_none (λ n. nat_le end n) ticks (λ k d within. let early = by k d within in grind (arith, nat_tests, early, before))

module _ (setting : Aggregate) (ticks : List ℕ) where
  -- the newest window as it is kept, if no turn at these ticks closed it
  abbrev open_of : List (Window Item) → Option (Open (List ℕ))
  open_of ws = option_map (kept_window setting.last)
      (newest_where (λ w. not (list_any (λ n. nat_le (w.opener.tick + setting.interval) n) ticks)) ws)

  arriving : (x : Item) (ws : List (Window Item)) → 1 ≤ setting.interval → x.count ≤ 65535 → All (λ n. n ≤ x.tick) ticks
      → has_passed x.tick (Some setting) (open_of ws) ≡ false
      → open_of (with_newest (λ item. item.tick) setting.interval x ws)
      ≡ Some (window_with setting.last x.tick (told_of x) (open_of ws))
  arriving x [] some few by not_due = grind (arith, none_from (x.tick + setting.interval) x.tick ticks by, some, few)
  arriving x (w ∷ older) some few by not_due =
      let none = λ (w : Window Item). none_from (w.opener.tick + setting.interval) x.tick ticks by in
      grind (arith, nat_tests, none (opened x), none w, sum_by-cons (λ (one : Item). one.count) x w.more, some, few, not_due)

-- the slot of an event, to which an item comes
pub arrival_slot : (setting : Option Aggregate) (x : Item) (ticks : List ℕ) (items : List Item) (slot : Slot (List ℕ))
    → slot ≡ slot_after setting ticks items → IsSome slot.setting → IfSome slot.setting (λ setting. 1 ≤ setting.interval)
    → x.count ≤ 65535 → EndBy (λ item. item.tick) x.tick items → All (λ n. n ≤ x.tick) ticks → is_due x.tick slot ≡ false
    → slot_with x.tick (told_of x) slot ≡ slot_after setting ticks (x ∷ items)
arrival_slot None x ticks items slot is there some few ends by not_due = cc (rw is at there)
arrival_slot (Some setting) x ticks items slot is there some few ends by not_due =
    let with_x = arriving setting ticks x (windows_of (λ item. item.tick) setting.interval items) (rw is at some) few by (rw is at not_due) in
    rw (is, windows_with (λ (item : Item). item.tick) setting.interval x items ends, with_x) refl
