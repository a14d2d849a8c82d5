-- The configuration that tables have, or their first fault.
-- Source: the configuration format of this project (docs/CONFIGURATION.md), which has a text in the place of rows.
use Rattle.std.specs.Prelude.{ℕ, ◌==◌, ◌||◌, List, map, not, Bool, Option, Some, None, is_some, unwrap_or, Result, nat_le, if◌then◌else◌, slice_index_or, ⊤}
use Rattle.std.specs.List.{range_with_len}
use Rattle.ids_types.specs.declared.mode.Mode.TheVariants as modes
use Rattle.ids_config.specs.declared.fault.ConfigFault.{ConfigFault}
use Rattle.ids_config.specs.declared.fault.ConfigPlace.TheVariants as places
use Rattle.ids_config.specs.declared.parts.Aggregate.{Aggregate}
use Rattle.ids_config.specs.declared.parts.Window.{Window}
use Rattle.ids_config.specs.Parts.{Event, Parts, class_of}
use Rattle.ids_config.specs.Steps.{◌>>◌, asks, at, capped, each}
use Rattle.ids_config.specs.Values.{checked}
use Rattle.config_tables.specs.declared.rows.AggregateRow.{AggregateRow}
use Rattle.config_tables.specs.declared.rows.ClassRow.{ClassRow}
use Rattle.config_tables.specs.declared.rows.EventRow.{EventRow}
use Rattle.config_tables.specs.declared.rows.TopRow.{TopRow}
use Rattle.config_tables.specs.declared.rows.WindowRow.{WindowRow}
use Rattle.config_tables.specs.Modes.{mode_at}

-- a window, if there is one
abbrev pub window_in : WindowRow → Option Window
window_in row = if row.is_set == 0 then None else Some (record { interval = row.interval; number = row.number })

-- an aggregation, if there is one
abbrev pub aggregate_in : AggregateRow → Option Aggregate
aggregate_in row = if row.is_set == 0 then None else Some (record { interval = row.interval; last = not (row.context == 0) })

-- the index of an internal event, if there is one
abbrev pub index_in : ℕ → Option ℕ
index_in number = if number == 4294967295 then None else Some number

-- the size and the number of a class
abbrev pub pair_in : ClassRow → ℕ × ℕ
pair_in row = (row.size, row.number)

-- blocking state i of a row, 0 behind the last for which there is room
abbrev pub state_at : EventRow → ℕ → ℕ
state_at row i = slice_index_or row.block i 0

-- the blocking states of a row
abbrev pub states_in : EventRow → List ℕ
states_in row = map (state_at row) (range_with_len 0 row.states)

-- an event
abbrev pub event_in : EventRow → Event
event_in row = record {
  id = row.id;
  sensor = row.sensor;
  version = row.version;
  mode = unwrap_or (mode_at row.mode) modes.Detailed;
  send = not (row.send == 0);
  store = not (row.store == 0);
  block = states_in row;
  nth = row.nth;
  aggregate = aggregate_in row.aggregate;
  threshold = window_in row.threshold;
}

-- the parts of a configuration
abbrev pub parts_in : TopRow → List ClassRow → List EventRow → Parts
parts_in top classes events = record {
  profile = top.profile;
  instance = top.instance;
  callers = top.callers;
  ring = top.ring;
  memory = top.memory;
  state = top.state;
  classes = map class_of (map pair_in classes);
  rate = window_in top.rate;
  traffic = window_in top.traffic;
  events = map event_in events;
  lost_events = index_in top.lost_events;
  lost_contexts = index_in top.lost_contexts;
  limited = index_in top.limited;
}

-- the choices of an event: its mode, and the context that its aggregation keeps
abbrev pub event_choices : EventRow → Result ⊤ ℕ
event_choices row =
    asks 7 (is_some (mode_at row.mode))
    >> asks 8 (row.aggregate.is_set == 0 || nat_le row.aggregate.context 1)

-- the choices of event i
abbrev pub choices_at : ℕ → EventRow → Result ⊤ ConfigFault
choices_at i row = at (places.Event (capped i)) (event_choices row)

-- the configuration that the tables have, or their first fault: those of choices come before those of value
abbrev pub config_in : TopRow → List ClassRow → List EventRow → Result Parts ConfigFault
config_in top classes events = each choices_at 0 events >> checked (parts_in top classes events)
