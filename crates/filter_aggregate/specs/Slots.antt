-- Slots: for each event how it is aggregated and its open window, over a holder of context data; and what a
-- turn that closes what is due, and an item that arrives, make of them.
use Rattle.std.specs.Prelude.{ℕ, ◌+◌, ◌≤◌, nat_le, min, Bool, false, List, map, Option, Some, None, IfSome, option_map, option_and_then, slice_index_or, slice_set, if◌then◌else◌, All}
use Rattle.std.specs.Option.{option_or}
use Rattle.ids_types.specs.declared.event.Qualified.{Qualified}
use Rattle.ids_config.specs.declared.parts.Aggregate.{Aggregate}
use Rattle.chain_spec.specs.Items.{told_by}
use Rattle.filter_aggregate.specs.declared.open.Open.{Open}
use Rattle.filter_aggregate.specs.declared.slot.Slot.{Slot}

-- the slot of an event with no window open
abbrev pub fresh_slot : {C : Type 0} → Option Aggregate → Slot C
fresh_slot setting = record { setting = setting; window = None }

-- the slot of an event, from 0
abbrev pub slot_at : {C : Type 0} → List (Slot C) → ℕ → Slot C
slot_at slots event = slice_index_or slots event (fresh_slot None)

-- each slot's interval has at least one tick
abbrev pub HaveIntervals : {C : Type 0} → List (Slot C) → Type 0
HaveIntervals slots = All (λ slot. IfSome slot.setting (λ setting. 1 ≤ setting.interval)) slots

-- the parcel that a slot holds, if its window is open and has one
abbrev pub held_in : {C : Type 0} → Slot C → Option C
held_in slot = option_and_then (λ w. w.item.context) slot.window

-- the window of these is open, and its interval has passed by a tick
abbrev pub has_passed : {C : Type 0} → ℕ → Option Aggregate → Option (Open C) → Bool
has_passed tick None window = false
has_passed tick (Some setting) None = false
has_passed tick (Some setting) (Some w) = nat_le (w.since + setting.interval) tick

-- the slot's window is due at a tick
abbrev pub is_due : {C : Type 0} → ℕ → Slot C → Bool
is_due tick slot = has_passed tick slot.setting slot.window

-- ---- a turn closes what is due

-- the one item of the slot's window, where it is due at a tick
abbrev pub item_due : {C : Type 0} → ℕ → Slot C → Option (Qualified C)
item_due tick slot = if is_due tick slot then option_map (λ w. w.item) slot.window else None

-- the slot after its window closed, where it is due at a tick
abbrev pub slot_closed : {C : Type 0} → ℕ → Slot C → Slot C
slot_closed tick slot = if is_due tick slot then fresh_slot slot.setting else slot

-- the slots after an event's window closed, where it is due at a tick
abbrev pub after_closing : {C : Type 0} → ℕ → ℕ → List (Slot C) → List (Slot C)
after_closing event tick slots = slice_set slots event (slot_closed tick (slot_at slots event))

-- ---- an item arrives

-- the last parcel is kept, else the first
abbrev pub keeps_last : Option Aggregate → Bool
keeps_last None = false
keeps_last (Some setting) = setting.last

-- the parcel kept of the one held and the one that came
abbrev pub kept_of : {C : Type 0} → Bool → Option C → Option C → Option C
kept_of last held came = if last then option_or came held else option_or held came

-- the parcel that is not kept of two
abbrev pub spare_of : {C : Type 0} → Bool → Option C → Option C → Option C
spare_of last None came = None
spare_of last (Some held) None = None
spare_of last (Some held) (Some came) = Some (if last then held else came)

-- the window with one item more: the counts together, at most 65,535, and the parcel kept
abbrev pub with_item : {C : Type 0} → Bool → Qualified C → Open C → Open C
with_item last item w = record {
  since = w.since;
  item = record {
    event = w.item.event;
    count = min (w.item.count + item.count) 65535;
    stamp = w.item.stamp;
    context = kept_of last w.item.context item.context;
  };
}

-- the window after an item arrived at a tick, which opened it where none was open
abbrev pub window_with : {C : Type 0} → Bool → ℕ → Qualified C → Option (Open C) → Open C
window_with last tick item None = record { since = tick; item = item }
window_with last tick item (Some w) = with_item last item w

-- the slot after an item arrived at a tick
abbrev pub slot_with : {C : Type 0} → ℕ → Qualified C → Slot C → Slot C
slot_with tick item slot =
    record { setting = slot.setting; window = Some (window_with (keeps_last slot.setting) tick item slot.window) }

-- the slots after an item arrived at a tick
abbrev pub after_arrival : {C : Type 0} → ℕ → Qualified C → List (Slot C) → List (Slot C)
after_arrival tick item slots = slice_set slots item.event.0 (slot_with tick item (slot_at slots item.event.0))

-- ---- over another holder of context data

-- the same window over another holder
abbrev pub open_by : {A B : Type 0} → (A → B) → Open A → Open B
open_by f w = record { since = w.since; item = told_by f w.item }

-- the same slot
abbrev pub slot_by : {A B : Type 0} → (A → B) → Slot A → Slot B
slot_by f slot = record { setting = slot.setting; window = option_map (open_by f) slot.window }

-- the same slots
abbrev pub slots_by : {A B : Type 0} → (A → B) → List (Slot A) → List (Slot B)
slots_by f slots = map (slot_by f) slots
