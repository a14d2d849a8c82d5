-- A configuration of an instance and its events alone, for worked examples.
use Rattle.std.proofs.Common.{List, [], None}
use Rattle.ids_config.specs.Parts.{Event, Parts}

-- instance 18 with these events, and all else by default
abbrev pub instance_18 : List Event → Parts
instance_18 events = record {
  profile = 1;
  instance = 18;
  callers = 1;
  ring = 64;
  memory = 0;
  state = 0;
  classes = [];
  rate = None;
  traffic = None;
  events = events;
  lost_events = None;
  lost_contexts = None;
  limited = None;
}
