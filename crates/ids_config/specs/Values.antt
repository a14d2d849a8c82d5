-- The search for faults of value, in the order of the walk. The first fault found is the answer.
-- Source: the configuration format of this project (docs/CONFIGURATION.md).
use Rattle.std.specs.Prelude.{ℕ, suc, ◌^◌, ◌&&◌, ◌==◌, List, [], ◌∷◌, Bool, true, not, Option, Some, None, Result, Ok, if◌then◌else◌, length, nat_le, nat_lt, ⊤}
use Rattle.ids_types.specs.declared.class_spec.ClassSpec.{ClassSpec}
use Rattle.ids_config.specs.declared.fault.ConfigFault.{ConfigFault}
use Rattle.ids_config.specs.declared.fault.ConfigPlace.TheVariants as places
use Rattle.ids_config.specs.declared.parts.Aggregate.{Aggregate}
use Rattle.ids_config.specs.declared.parts.Window.{Window}
use Rattle.ids_config.specs.Parts.{Event, Parts}
use Rattle.ids_config.specs.Steps.{◌>>◌, asks, in_range, at, each, capped}

-- an interval in ticks
abbrev pub interval_value : ℕ → ℕ → Result ⊤ ℕ
interval_value number interval = in_range number 1 (2 ^ 62) interval

-- a window, where there is one, with its number in the range
abbrev pub window_value : ℕ → ℕ → ℕ → Option Window → Result ⊤ ℕ
window_value fault least most None = Ok tt
window_value fault least most (Some window) =
    interval_value fault window.interval >> in_range fault least most window.number

-- a limit of events or of bytes, where there is one
abbrev pub limit_value : Option Window → Result ⊤ ℕ
limit_value limit = window_value 18 0 4294967295 limit

-- the numbers at the top, before the classes
abbrev pub numbers_value : Parts → Result ⊤ ℕ
numbers_value config =
    in_range 25 1 2 config.profile
    >> in_range 9 0 1023 config.instance
    >> in_range 10 1 32 config.callers
    >> in_range 11 1 1024 config.ring
    >> in_range 12 0 256 config.memory
    >> in_range 13 0 255 config.state

-- a class after one of this size
abbrev pub class_value : ℕ → ClassSpec → Result ⊤ ℕ
class_value above class =
    in_range 15 1 1024 class.size
    >> in_range 16 1 1024 class.number
    >> asks 17 (nat_lt above class.size)

-- classes from this index on, after one of this size
abbrev pub each_class : ℕ → ℕ → List ClassSpec → Result ⊤ ConfigFault
each_class index above [] = Ok tt
each_class index above (class ∷ classes) =
    at (places.Class (capped index)) (class_value above class)
    >> each_class (suc index) class.size classes

-- all classes
abbrev pub classes_value : List ClassSpec → Result ⊤ ConfigFault
classes_value classes = at places.Top (asks 14 (nat_le (length classes) 4)) >> each_class 0 0 classes

-- the states rise strictly, from at least this one, and end by 255
abbrev pub rises : ℕ → List ℕ → Bool
rises least [] = true
rises least (state ∷ states) = nat_le least state && nat_le state 255 && rises (suc state) states

-- blocking states
abbrev pub block_value : List ℕ → Result ⊤ ℕ
block_value block = asks 22 (nat_le (length block) 16 && rises 0 block)

-- an aggregation, where there is one
abbrev pub aggregate_value : Option Aggregate → Result ⊤ ℕ
aggregate_value None = Ok tt
aggregate_value (Some aggregate) = interval_value 23 aggregate.interval

-- the greatest version of an event under this profile
abbrev pub most_version : ℕ → ℕ
most_version profile = if profile == 1 then 0 else 255

-- an event under this profile
unfoldable pub event_value : ℕ → Event → Result ⊤ ℕ
event_value profile event =
    in_range 20 0 65535 event.id
    >> in_range 21 0 63 event.sensor
    >> in_range 26 0 (most_version profile) event.version
    >> block_value event.block
    >> in_range 23 1 65535 event.nth
    >> aggregate_value event.aggregate
    >> window_value 23 1 65535 event.threshold

-- events under this profile, from this index on
abbrev pub each_event : ℕ → ℕ → List Event → Result ⊤ ConfigFault
each_event profile index events =
    each (λ i event. at (places.Event (capped i)) (event_value profile event)) index events

-- all events under this profile
abbrev pub events_value : ℕ → List Event → Result ⊤ ConfigFault
events_value profile events =
    at places.Top (asks 19 (nat_le 1 (length events) && nat_le (length events) 256))
    >> each_event profile 0 events

-- the index, where it is given, is that of one of so many events
abbrev pub is_within : ℕ → Option ℕ → Bool
is_within events None = true
is_within events (Some index) = nat_lt index events

-- the indices, where both are given, differ
abbrev pub differ : Option ℕ → Option ℕ → Bool
differ None other = true
differ (Some index) None = true
differ (Some index) (Some other) = not (index == other)

-- the internal events, of so many events
abbrev pub internal_value : Parts → Result ⊤ ℕ
internal_value config =
    let events = length config.events in
    asks 24 (is_within events config.lost_events && is_within events config.lost_contexts
    && is_within events config.limited && differ config.lost_events config.lost_contexts
    && differ config.lost_events config.limited && differ config.lost_contexts config.limited)

-- the whole configuration
unfoldable pub parts_value : Parts → Result ⊤ ConfigFault
parts_value config =
    at places.Top (numbers_value config)
    >> classes_value config.classes
    >> at places.Top (limit_value config.rate)
    >> at places.Top (limit_value config.traffic)
    >> events_value config.profile config.events
    >> at places.Top (internal_value config)

-- the configuration, unless it has a fault of value
abbrev pub checked : Parts → Result Parts ConfigFault
checked config = parts_value config >> Ok config
