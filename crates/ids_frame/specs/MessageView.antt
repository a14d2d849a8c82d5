-- What contracts see of a `Message`.
use Rattle.std.specs.Prelude.{option_copied}
use Rattle.ids_frame.specs.Message.{MessageParts}
use Rattle.ids_frame.specs.declared.message.Message.TheInside.{Inside}

-- the parts that the fields hold
abbrev pub parts_of : Inside → MessageParts
parts_of m = record {
  version = m.version;
  instance = m.instance;
  sensor = m.sensor;
  event = m.event;
  count = m.count;
  reserved = m.reserved;
  stamp = m.stamp;
  context = m.context;
  signature = option_copied m.signature;
}
