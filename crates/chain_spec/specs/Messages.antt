-- The message of a qualified event.
-- After the event message of the AUTOSAR PRS Intrusion Detection System; its layout is that of ids_frame.
use Rattle.std.specs.Prelude.{ℕ, ◌==◌, List, [], ◌∷◌, ◌++◌, length, Option, Some, None, option_map, if◌then◌else◌}
use Rattle.ids_config.specs.Parts.{Parts, event_at}
use Rattle.ids_frame.specs.{context_of, MessageParts, spelling}
use Rattle.chain_spec.specs.Items.{Item}
use Rattle.chain_spec.specs.Limits.{Candidate}

-- the message's byte 7: in profile 2 the version of its context data, and else 0
abbrev pub byte_7 : ℕ → ℕ → Option (List ℕ) → ℕ
byte_7 profile version None = 0
byte_7 profile version (Some context) = if profile == 2 then version else 0

-- the message of an item: the configured names, what the item tells, and no signature
abbrev pub message_of : Parts → Item → MessageParts
message_of config item =
    let event = event_at config item.event in
    record {
      version = config.profile;
      instance = config.instance;
      sensor = event.sensor;
      event = event.id;
      count = item.count;
      reserved = byte_7 config.profile event.version item.context;
      stamp = item.stamp;
      context = option_map context_of item.context;
      signature = None;
    }

-- what the limits see of an item
abbrev pub weighed : Parts → Item → Candidate
weighed config item = record { tick = item.tick; bytes = length (spelling (message_of config item)) }

-- the bytes of the messages of items, the oldest message first
abbrev pub spelled : Parts → List Item → List ℕ
spelled config [] = []
spelled config (item ∷ before) = spelled config before ++ spelling (message_of config item)
