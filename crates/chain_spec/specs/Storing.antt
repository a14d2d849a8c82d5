-- What of a history is stored in the event memory: every qualified event of which this is configured, whatever
-- the limits of sending say.
use Rattle.std.specs.Prelude.{ℕ, ◌==◌, ◌&&◌, not, Bool, List, [], map, unwrap_or}
use Rattle.ids_types.specs.Turns.{Turn}
use Rattle.ids_types.specs.declared.key.Key.{Key}
use Rattle.ids_config.specs.Parts.{Parts, event_at}
use Rattle.chain_spec.specs.Items.{Item}
use Rattle.chain_spec.specs.Lists.{stores}
use Rattle.chain_spec.specs.Memory.{Stored, Row, memory_of}
use Rattle.chain_spec.specs.Moments.{Moment, moments}
use Rattle.chain_spec.specs.Way.{Ending, endings, items_where}

-- the key of an event, with its configured id and sensor
abbrev pub key_of : Parts → ℕ → Key
key_of config event =
    record { event = record { 0 = event }; id = (event_at config event).id; sensor = (event_at config event).sensor }

-- an item as it is stored
abbrev pub stored_of : Parts → Item → Stored
stored_of config item = record {
  tick = item.tick;
  key = key_of config item.event;
  count = item.count;
  stamp = item.stamp;
  context = unwrap_or item.context [];
}

-- the qualified events that are stored
abbrev pub stored : Parts → List Moment → List Stored
stored config moments = map (stored_of config) (items_where (stores config) (endings config moments))

-- the event memory of a history
abbrev pub memory : Parts → List Turn → List Row
memory config turns = memory_of config.memory (stored config (moments config turns))

-- the item is stored in the event memory, which has room for a record
abbrev pub is_stored : Parts → Ending → Bool
is_stored config one = stores config one && not (config.memory == 0)
