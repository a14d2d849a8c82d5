-- The generated configuration: events with every filter, by their index, and the three internal ones.
use Rattle.std.specs.Prelude.{ℕ, ◌+◌, ◌%◌, ◌==◌, true, false, List, [], ◌∷◌, ◌++◌, map, Option, Some, None, if◌then◌else◌}
use Rattle.std.specs.List.{range_with_len}
use Rattle.ids_types.specs.declared.mode.Mode.{Mode}
use Rattle.ids_types.specs.declared.mode.Mode.TheVariants.{Brief, Detailed}
use Rattle.ids_config.specs.declared.parts.Aggregate.{Aggregate}
use Rattle.ids_config.specs.declared.parts.Window.{Window}
use Rattle.ids_config.specs.Parts.{Event, Parts, class_of, plain_event}
use Rattle.gen_options.specs.declared.options.Options.{Options}

-- every eighth event is brief
abbrev pub mode_of : ℕ → Mode
mode_of e = if e % 8 == 7 then Brief else Detailed

-- every sixth event is blocked in state 1
abbrev pub block_of : ℕ → List ℕ
block_of e = if e % 6 == 5 then 1 ∷ [] else []

-- of five events one is aggregated over 50 ticks with its first context data, one over 80 with its last
abbrev pub aggregate_of : ℕ → Option Aggregate
aggregate_of e =
    if e % 5 == 0 then Some (record { interval = 50; last = false })
    else if e % 5 == 1 then Some (record { interval = 80; last = true })
    else None

-- every seventh event has a threshold
abbrev pub threshold_of : ℕ → Option Window
threshold_of e = if e % 7 == 0 then Some (record { interval = 200; number = 3 }) else None

-- event e of those that sensors report
abbrev pub sensor_event : ℕ → Event
sensor_event e = record {
  id = 1000 + e;
  sensor = e % 64;
  version = 0;
  mode = mode_of e;
  send = true;
  store = e % 4 == 0;
  block = block_of e;
  nth = 1 + e % 3;
  aggregate = aggregate_of e;
  threshold = threshold_of e;
}

-- an internal event, which is stored
abbrev pub internal_event : ℕ → Event
internal_event id = record (plain_event id 0) { store = true }

-- so many events that sensors report, and the internal ones after them
abbrev pub all_events : ℕ → List Event
all_events events =
    map sensor_event (range_with_len 0 events) ++ internal_event 1 ∷ internal_event 2 ∷ internal_event 3 ∷ []

-- the configuration
abbrev pub config_of : Options → Parts
config_of o = record {
  profile = 1;
  instance = 18;
  callers = o.callers;
  ring = 1024;
  memory = 64;
  state = 0;
  classes = class_of (16, 512) ∷ class_of (128, 512) ∷ [];
  rate = Some (record { interval = 1000; number = 400 });
  traffic = Some (record { interval = 1000; number = 16384 });
  events = all_events o.events;
  lost_events = Some o.events;
  lost_contexts = Some (o.events + 1);
  limited = Some (o.events + 2);
}
