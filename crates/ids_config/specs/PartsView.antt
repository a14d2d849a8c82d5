-- What contracts see of `ConfigParts`.
use Rattle.std.specs.Prelude.{map}
use Rattle.ids_config.specs.declared.parts.ConfigParts.TheInside.{Inside}
use Rattle.ids_config.specs.Parts.{Parts, class_of}

-- the configuration that the fields hold
abbrev pub parts_of : Inside → Parts
parts_of c = record {
  profile = c.profile;
  instance = c.instance;
  callers = c.callers;
  ring = c.ring;
  memory = c.memory;
  state = c.state;
  classes = map class_of c.classes.items;
  rate = c.rate;
  traffic = c.traffic;
  events = c.events.items;
  lost_events = c.lost_events;
  lost_contexts = c.lost_contexts;
  limited = c.limited;
}
