-- The messages of a sender, and how long they are.
use Rattle.std.proofs.Common.{◌≡◌, ◌<◌, ◌≤◌, ◌+◌, ℕ, List, length, map, Option, Some, None, nat_le, if◌then◌else◌, is_some, arith, length-append}
use Rattle.std.proofs.lemmas.List.{get_or-map, length-map}
use Rattle.ids_config.specs.Parts.{Parts, event_at, plain_event}
use Rattle.ids_frame.specs.{spelling}
use Rattle.chain_spec.specs.{Item, weighed}
use Rattle.message_sender.specs.{SenderParts, most_message, source_of, message_by, source_in}
use Rattle.message_sender.specs.declared.sources.Source.{Source}

-- a message has no more bytes than its context data let it
pub message_is_short : (sender : SenderParts) (source : Source) (item : Item)
    → length (spelling (message_by sender source item)) ≤ most_message item.context
message_is_short sender source item = grind (arith, length-append)

-- how many bytes the message of an item has
abbrev pub context_len : Option (List ℕ) → ℕ
context_len None = 0
context_len (Some bytes) = (if nat_le (length bytes) 127 then 1 else 4) + length bytes

pub length_is : (config : Parts) (item : Item)
    → (weighed config item).bytes ≡ (if is_some item.stamp then 16 else 8) + context_len item.context
length_is config item = grind (arith, length-append)

-- the source of an event is the configured one
pub knows_source : (config : Parts) {sources : List Source} (k : ℕ) → sources ≡ map source_of config.events → k < length sources
    → source_in sources k ≡ source_of (event_at config k)
knows_source config k is within =
    grind (arith, is, length-map config.events source_of, get_or-map source_of config.events k (plain_event 0 0))
