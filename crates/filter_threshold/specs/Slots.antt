-- Slots: the threshold of each event with its newest window, and the step by one item.
use Rattle.std.specs.Prelude.{ℕ, ◌+◌, min, nat_lt, nat_le, Bool, true, List, Option, Some, None, option_map, if◌then◌else◌, slice_index_or, slice_set}
use Rattle.ids_config.specs.Parts.{Event}
use Rattle.filter_threshold.specs.declared.threshold.Counted.{Counted}
use Rattle.filter_threshold.specs.declared.threshold.Threshold.{Threshold}

-- the window covers a tick
abbrev pub is_covered : ℕ → ℕ → Counted → Bool
is_covered interval tick window = nat_lt tick (window.since + interval)

-- the window that an item opens
abbrev pub opened_at : ℕ → ℕ → Counted
opened_at tick count = record { since = tick; sum = min count 65535 }

-- the window that is the newest with one item more
abbrev pub counted_with : ℕ → ℕ → ℕ → Option Counted → Counted
counted_with interval tick count None = opened_at tick count
counted_with interval tick count (Some window) =
    if is_covered interval tick window
    then record { since = window.since; sum = min (window.sum + count) 65535 }
    else opened_at tick count

-- the counts of an item's window reach the number
abbrev pub is_reached : ℕ → ℕ → Threshold → Bool
is_reached tick count threshold =
    nat_le threshold.setting.number (counted_with threshold.setting.interval tick count threshold.window).sum

-- the threshold with an item more
abbrev pub counting : ℕ → ℕ → Threshold → Threshold
counting tick count threshold =
    record threshold { window = Some (counted_with threshold.setting.interval tick count threshold.window) }

-- the slot of an event of which no item came yet
abbrev pub fresh_slot : Event → Option Threshold
fresh_slot event = option_map (λ setting. record { setting = setting; window = None }) event.threshold

-- the slot of event k, from 0
abbrev pub slot_at : List (Option Threshold) → ℕ → Option Threshold
slot_at slots k = slice_index_or slots k None

-- whether an item passes a slot: without a threshold it does
abbrev pub passes : ℕ → ℕ → Option Threshold → Bool
passes tick count None = true
passes tick count (Some threshold) = is_reached tick count threshold

-- the slot after an item
abbrev pub after_item : ℕ → ℕ → Option Threshold → Option Threshold
after_item tick count slot = option_map (counting tick count) slot

-- the slots after an item of an event
abbrev pub after_arrival : ℕ → ℕ → ℕ → List (Option Threshold) → List (Option Threshold)
after_arrival event tick count slots = slice_set slots event (after_item tick count (slot_at slots event))
