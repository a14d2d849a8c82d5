-- What messages and records tell of each event.
use Rattle.std.specs.Prelude.{ℕ, ◌≤◌, false, List, slice_index_or}
use Rattle.ids_config.specs.Parts.{Event}
use Rattle.message_sender.specs.declared.sources.Source.{Source}

-- the source of an event
abbrev pub source_of : Event → Source
source_of event = record { id = event.id; sensor = event.sensor; version = event.version; send = event.send; store = event.store }

-- an event's names are in their ranges
pub record IsNamed (event : Event) : Type 0 where
  pub id : event.id ≤ 65535
  pub sensor : event.sensor ≤ 63
  pub version : event.version ≤ 255

-- the layout has room for the sensor
abbrev pub HasSixBits : Source → Type 0
HasSixBits source = source.sensor ≤ 63

-- the source of event k
abbrev pub source_in : List Source → ℕ → Source
source_in sources k = slice_index_or sources k (record { id = 0; sensor = 0; version = 0; send = false; store = false })
