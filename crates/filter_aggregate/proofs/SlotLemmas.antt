-- Slots: their intervals, and their steps over another holder of context data.
use Rattle.filter_aggregate.proofs.Names.{◌≡◌, ℕ, ◌<◌, ◌≤◌, List, length, map, None, IfSome, slice_set, slice_index_or, get_or-map, Event, AllByRecursion, Slot, fresh_slot, slot_at, HaveIntervals, slot_by, slots_by}
use Rattle.std.proofs.lemmas.List.Elements.{All-set, All-map, All-weaker, All-from_recursion}
use Rattle.ids_config.specs.Valid.{IsEvent}
use Rattle.std.proofs.lemmas.Option.{IfSome_then}

-- ---- intervals

module _ {C : Type 0} where
  abbrev HasInterval : Slot C → Type 0
  HasInterval slot = IfSome slot.setting (λ setting. 1 ≤ setting.interval)

  -- slots keep their intervals where one of them becomes another that is aggregated as it was
  pub intervals_set : (slots : List (Slot C)) (event : ℕ) (old now : Slot C) → event < length slots → old ≡ slice_index_or slots event old
      → now.setting ≡ old.setting → HaveIntervals slots → HaveIntervals (slice_set slots event now)
  intervals_set slots event old now there is same intervals =
      All-set HasInterval slots event now (rw same (rw (← is) at (intervals event old there))) intervals

  -- those of a valid configuration
  pub intervals_fresh : (profile : ℕ) (events : List Event) → AllByRecursion (IsEvent profile) events
      → HaveIntervals (map (λ event. fresh_slot {C = C} event.aggregate) events)
  intervals_fresh profile events valid =
      All-map HasInterval (λ event. fresh_slot event.aggregate) events (All-weaker (IsEvent profile) _
      (λ event one. IfSome_then event.aggregate one.aggregate (λ a is. is.least)) events (All-from_recursion (IsEvent profile) events valid))

-- ---- over another holder of context data

module _ {A B : Type 0} (f : A → B) where
  pub slot_at_by : (slots : List (Slot A)) (event : ℕ) → event < length slots
      → slot_at (slots_by f slots) event ≡ slot_by f (slot_at slots event)
  slot_at_by slots event there = get_or-map (slot_by f) slots event (fresh_slot None) (fresh_slot None) there
