-- The sender as plain data, and what it sends and counts.
use Rattle.std.specs.Prelude.{◌≡◌, ℕ, ◌+◌, ◌≤◌, List, length, Option, None, Some, option_map, if◌then◌else◌}
use Rattle.ids_types.specs.Output.{Output, room_of}
use Rattle.ids_config.specs.Parts.{Parts, is_given}
use Rattle.ids_frame.specs.{context_of, MessageParts}
use Rattle.chain_spec.specs.{Item, byte_7}
use Rattle.message_sender.specs.declared.sources.Source.{Source}

-- the names in all messages, the event that reports what was held back, and how many were held back since the turn began
pub record SenderParts : Type 0 where
  pub profile : ℕ
  pub instance : ℕ
  pub limited : Option ℕ
  pub held : ℕ

-- the sender knows the configured names
pub record IsSenderOf (config : Parts) (sender : SenderParts) : Type 0 where
  pub profile : sender.profile ≡ config.profile
  pub instance : sender.instance ≡ config.instance
  pub limited : sender.limited ≡ config.limited

-- the message of an item from a source
abbrev pub message_by : SenderParts → Source → Item → MessageParts
message_by sender source item = record {
  version = sender.profile;
  instance = sender.instance;
  sensor = source.sensor;
  event = source.id;
  count = item.count;
  reserved = byte_7 sender.profile source.version item.context;
  stamp = item.stamp;
  context = option_map context_of item.context;
  signature = None;
}

-- the sender with so many held back
abbrev pub with_held : ℕ → SenderParts → SenderParts
with_held number sender = record sender { held = number }

-- the sender after event k was held back: it counts, unless it is the event that reports these
abbrev pub with_held_back : ℕ → SenderParts → SenderParts
with_held_back k sender = if is_given sender.limited k then sender else with_held (sender.held + 1) sender

-- how many bytes a message with these context data has at most: 16 without any, and else four for their number, and they
-- themselves
abbrev pub most_message : Option (List ℕ) → ℕ
most_message None = 16
most_message (Some bytes) = 20 + length bytes

-- context data have at most 1,024 bytes
abbrev pub IsShort : List ℕ → Type 0
IsShort bytes = length bytes ≤ 1024

-- the output has at most one message more, of at most so many bytes
pub record TakesOne (bytes : ℕ) (before after : Output) : Type 0 where
  pub room : room_of after ≡ room_of before
  pub sent_left : before.sent_left ≤ after.sent_left + bytes
  pub messages : after.messages ≤ before.messages + 1
