-- Sealed messages: a counter and a tag in the signature part.
use Rattle.std.specs.Prelude.{◌≡◌, ℕ, ◌+◌, List, [], ◌∷◌, ◌++◌, Option, Some, None}
use Rattle.std.specs.Int.{w64, to_be_bytes}
use Rattle.std.specs.List.{AllByRecursion}
use Rattle.ids_frame.specs.{MessageParts, FitsMessage, spelling, joined}
use Rattle.frame_auth.specs.Tags.{hmac}

-- the message with this signature part, or with none
abbrev pub with_signature : Option (List ℕ) → MessageParts → MessageParts
with_signature signature m = record m { signature = signature }

-- the message without its signature part
abbrev pub bare : MessageParts → MessageParts
bare m = with_signature None m

-- the seal of a spelling: the counter in eight bytes, and the tag of the spelling and these eight
abbrev pub seal_of : (key : List ℕ) (counter : ℕ) → List ℕ → List ℕ
seal_of key counter plain = to_be_bytes w64 counter ++ hmac key (plain ++ to_be_bytes w64 counter)

-- a message that had no signature part, sealed
abbrev pub sealed : (key : List ℕ) (counter : ℕ) → MessageParts → MessageParts
sealed key counter m = with_signature (Some (seal_of key counter (spelling m))) m

-- messages, sealed with this counter and those that follow it
abbrev pub sealed_from : (key : List ℕ) (counter : ℕ) → List MessageParts → List MessageParts
sealed_from key counter [] = []
sealed_from key counter (m ∷ messages) = sealed key counter m ∷ sealed_from key (counter + 1) messages

-- the layout can say the message, and it has no signature part
pub record IsPlain (m : MessageParts) : Type 0 where
  pub fits : FitsMessage m
  pub none : m.signature ≡ None

-- each message is plain
abbrev pub ArePlain : List MessageParts → Type 0
ArePlain messages = AllByRecursion IsPlain messages

-- the spellings of messages that are sealed so
abbrev pub joined_sealed : (key : List ℕ) (counter : ℕ) → List MessageParts → List ℕ
joined_sealed key counter messages = joined (sealed_from key counter messages)

-- the input is plain messages, written in one way, and the output these messages, written in the other
pub record Copies (from to : List MessageParts → List ℕ) (input output : List ℕ) : Type 0 where
  pub messages : List MessageParts
  pub are_plain : ArePlain messages
  pub read : input ≡ from messages
  pub written : output ≡ to messages

-- the message is sealed with this counter
abbrev pub IsSealedWith : (key : List ℕ) (counter : ℕ) → MessageParts → Type 0
IsSealedWith key counter m = m ≡ sealed key counter (bare m)

-- the message is sealed with no counter: it has no signature part, or one that is not its seal
abbrev pub HasNoSeal : (key : List ℕ) → MessageParts → Type 0
HasNoSeal key m = (counter : ℕ) → IsSealedWith key counter m → ⊥

-- the message is sealed, and not with the counter that is due
pub record HasOtherCounter (key : List ℕ) (due : ℕ) (m : MessageParts) : Type 0 where
  pub counter : ℕ
  pub with : IsSealedWith key counter m
  pub other : IsSealedWith key due m → ⊥
