-- A configuration as plain data.
-- Source: the configuration format of this project (docs/CONFIGURATION.md).
use Rattle.std.specs.Prelude.{ℕ, List, [], Bool, true, false, Option, Some, None, option_map, ◌==◌, length, slice_index_or}
use Rattle.ids_types.specs.Internals.{is_reported}
use Rattle.ids_types.specs.declared.class_spec.ClassSpec.{ClassSpec}
use Rattle.ids_types.specs.declared.internal.Internal.{Internal}
use Rattle.ids_types.specs.declared.mode.Mode.{Mode}
use Rattle.ids_types.specs.declared.mode.Mode.TheVariants.{Detailed}
use Rattle.ids_types.specs.declared.names.EventIndex.{EventIndex}
use Rattle.ids_config.specs.declared.parts.Aggregate.{Aggregate}
use Rattle.ids_config.specs.declared.parts.Window.{Window}

-- a security event; the version is that of its context data
pub record Event : Type 0 where
  pub id : ℕ
  pub sensor : ℕ
  pub version : ℕ
  pub mode : Mode
  pub send : Bool
  pub store : Bool
  pub block : List ℕ
  pub nth : ℕ
  pub aggregate : Option Aggregate
  pub threshold : Option Window

-- the class of a size and a number of buffers
abbrev pub class_of : ℕ × ℕ → ClassSpec
class_of pair = record { size = pair.0; number = pair.1 }

-- a configuration; the profile is that of its messages
pub record Parts : Type 0 where
  pub profile : ℕ
  pub instance : ℕ
  pub callers : ℕ
  pub ring : ℕ
  pub memory : ℕ
  pub state : ℕ
  pub classes : List ClassSpec
  pub rate : Option Window
  pub traffic : Option Window
  pub events : List Event
  pub lost_events : Option ℕ
  pub lost_contexts : Option ℕ
  pub limited : Option ℕ

-- an event of this id by this sensor, and all else by default
abbrev pub plain_event : ℕ → ℕ → Event
plain_event id sensor = record {
  id = id;
  sensor = sensor;
  version = 0;
  mode = Detailed;
  send = true;
  store = false;
  block = [];
  nth = 1;
  aggregate = None;
  threshold = None;
}

-- event k, from 0
abbrev pub event_at : Parts → ℕ → Event
event_at config k = slice_index_or config.events k (plain_event 0 0)

-- the index is given, and is this one
abbrev pub is_given : Option ℕ → ℕ → Bool
is_given None k = false
is_given (Some index) k = index == k

-- the index as a name of an event
abbrev pub index_of : ℕ → EventIndex
index_of k = record { 0 = k }

-- the internal events
abbrev pub internal_of : Parts → Internal
internal_of config = record {
  lost_events = option_map index_of config.lost_events;
  lost_contexts = option_map index_of config.lost_contexts;
  limited = option_map index_of config.limited;
}

-- event k is reported by a sensor, and not by the manager itself
abbrev pub is_sensor : Parts → ℕ → Bool
is_sensor config k = is_reported (internal_of config) (length config.events) k
