-- What contracts see of `EventParts`.
use Rattle.ids_config.specs.declared.parts.EventParts.TheInside.{Inside}
use Rattle.ids_config.specs.Parts.{Event}

-- the event that the fields hold
abbrev pub event_of : Inside → Event
event_of e = record {
  id = e.id;
  sensor = e.sensor;
  version = e.version;
  mode = e.mode;
  send = e.send;
  store = e.store;
  block = e.block.items;
  nth = e.nth;
  aggregate = e.aggregate;
  threshold = e.threshold;
}
