-- Messages whose spellings stand one after the other, and the first that bytes do not hold.
-- Source: the layout of specs/Spelling.antt.
use Rattle.std.specs.Prelude.{◌≡◌, ℕ, zero, suc, ◌-◌, List, [], ◌∷◌, ◌++◌, length, Result, Ok, Err}
use Rattle.std.specs.List.{flat_map, AllByRecursion}
use Rattle.std.specs.Result.{result_unwrap_or}
use Rattle.ids_frame.specs.declared.fault.BadMessage.{BadMessage}
use Rattle.ids_frame.specs.Message.{MessageParts, FitsMessage}
use Rattle.ids_frame.specs.Spelling.{spelling}
use Rattle.ids_frame.specs.Reading.{Begun, message_at}
use Rattle.ids_frame.specs.Decoding.{CauseOf}

-- the spellings of these messages, one after the other
abbrev pub joined : List MessageParts → List ℕ
joined messages = flat_map spelling messages

-- the layout can say each of these messages
abbrev pub AreMessages : List MessageParts → Type 0
AreMessages messages = AllByRecursion FitsMessage messages

-- the bytes are the spellings of these messages, and nothing else
pub record IsJoined (bytes : List ℕ) (messages : List MessageParts) : Type 0 where
  pub fit : AreMessages messages
  pub whole : bytes ≡ joined messages

-- the bytes are the spellings of some messages
abbrev pub HasMessages : List ℕ → Type 0
HasMessages bytes = (messages : List MessageParts) × IsJoined bytes messages

-- after some messages there are bytes that do not begin with one
pub record Breaks (bytes : List ℕ) (bad : BadMessage) : Type 0 where
  pub front : List MessageParts
  pub fit : AreMessages front
  pub next : ℕ
  pub rest : List ℕ
  pub whole : bytes ≡ joined front ++ next ∷ rest
  pub place : bad.at ≡ length (joined front)
  pub cause : CauseOf bad.fault (next ∷ rest)

-- what a file holds: its messages, or the place and the fault of the first that cannot be read
abbrev pub Held : Type 0
Held = Result (List MessageParts) BadMessage

-- the bytes are a file that holds this
abbrev pub Holds : List ℕ → Held → Type 0
Holds bytes (Ok messages) = IsJoined bytes messages
Holds bytes (Err bad) = Breaks bytes bad

-- this message stands before what is held after it
abbrev pub before : MessageParts → Held → Held
before message (Ok messages) = Ok (message ∷ messages)
before message (Err bad) = Err bad

-- what is held where this was read at a place, by what is held after a message
abbrev pub held_by : ℕ → Begun → (MessageParts → Held) → Held
held_by at (Ok x) behind = before x.0 (behind x.0)
held_by at (Err fault) behind = Err (record { at = at; fault = fault })

-- what the last bytes of a file of this size hold, after the bytes of a message that are left out
unfoldable pub held_in : (size left_out : ℕ) → List ℕ → Held
held_in size left_out [] = Ok []
held_in size (suc left_out) (byte ∷ bytes) = held_in size left_out bytes
held_in size zero (byte ∷ bytes) =
    held_by (size - length (byte ∷ bytes)) (message_at (byte ∷ bytes))
    (λ message. held_in size (length (spelling message) - 1) bytes)

-- what a whole file holds
unfoldable pub messages_read : List ℕ → Held
messages_read bytes = held_in (length bytes) 0 bytes

-- the messages of a file that holds nothing else
abbrev pub messages_of : List ℕ → List MessageParts
messages_of bytes = result_unwrap_or (messages_read bytes) []
