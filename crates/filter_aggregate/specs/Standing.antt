-- What slots stand for: the window of each event that is open after the turns that closed it, and the items that came to
-- the windows. Lists have the newest first.
-- Public standard: AUTOSAR SWS Intrusion Detection System Manager, aggregation filter.
use Rattle.std.specs.Prelude.{◌≡◌, ℕ, ◌<◌, List, length, filter, Bool, Option, Some, None, option_map}
use Rattle.ids_config.specs.Parts.{Parts, event_at}
use Rattle.ids_config.specs.declared.parts.Aggregate.{Aggregate}
use Rattle.chain_spec.specs.Items.{Item, is_of, told_of}
use Rattle.chain_spec.specs.Moments.{Moment}
use Rattle.chain_spec.specs.OpenWindows.{closing_ticks, joined, open_window}
use Rattle.chain_spec.specs.Windows.{Window}
use Rattle.filter_aggregate.specs.declared.open.Open.{Open}
use Rattle.filter_aggregate.specs.declared.slot.Slot.{Slot}
use Rattle.filter_aggregate.specs.Slots.{slot_at}

-- a window as it is kept: its opener's tick, and what it gives beside the tick at which it closes
abbrev pub kept_window : Bool → Window Item → Open (List ℕ)
kept_window last w = record { since = w.opener.tick; item = told_of (joined last w.opener.tick w) }

-- the window of an event's items that is open after turns at these ticks, if the event is aggregated
abbrev pub window_after : Option Aggregate → List ℕ → List Item → Option (Open (List ℕ))
window_after None ticks items = None
window_after (Some setting) ticks items = option_map (kept_window setting.last) (open_window setting.interval ticks items)

-- the slot of an event after them
abbrev pub slot_after : Option Aggregate → List ℕ → List Item → Slot (List ℕ)
slot_after setting ticks items = record { setting = setting; window = window_after setting ticks items }

-- the slot of an event after these moments, and these items that came to the windows
abbrev pub slot_of : Parts → List Moment → List Item → ℕ → Slot (List ℕ)
slot_of config moments items event =
    slot_after (event_at config event).aggregate (closing_ticks event moments) (filter (is_of event) items)

-- the slots after them: one for each configured event, aggregated as it is configured
pub record Stands (config : Parts) (moments : List Moment) (items : List Item) (slots : List (Slot (List ℕ))) : Type 0 where
  pub events : length slots ≡ length config.events
  pub each : (event : ℕ) → event < length slots → slot_at slots event ≡ slot_of config moments items event
