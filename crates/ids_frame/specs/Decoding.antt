-- What bytes begin with: a message's spelling, a part of one, or no spelling.
-- Source: the layout of specs/Spelling.antt.
use Rattle.std.specs.Prelude.{◌≡◌, ℕ, ◌/◌, ◌%◌, List, [], ◌∷◌, ◌++◌, length, Result, Ok, Err}
use Rattle.std.specs.Result.{result_map_both}
use Rattle.ids_frame.specs.declared.fault.FrameFault.{FrameFault}
use Rattle.ids_frame.specs.declared.fault.FrameFault.TheVariants.{Short, UnknownVersion, UnknownPart}
use Rattle.ids_frame.specs.Message.{MessageParts, FitsMessage, IsKnown}
use Rattle.ids_frame.specs.Spelling.{spelling}
use Rattle.ids_frame.specs.Reading.{Begun, message_at}

-- the bytes are the spelling of this message, and then these bytes
pub record BeginsWith (bytes : List ℕ) (message : MessageParts) (rest : List ℕ) : Type 0 where
  pub fits : FitsMessage message
  pub whole : bytes ≡ spelling message ++ rest

-- the bytes are a proper prefix of some message's spelling
pub record IsCut (bytes : List ℕ) : Type 0 where
  pub message : MessageParts
  pub fits : FitsMessage message
  pub next : ℕ
  pub more : List ℕ
  pub whole : bytes ++ next ∷ more ≡ spelling message

-- there is a first byte, and its upper four bits are not the version of a layout
abbrev pub StrangeVersion : List ℕ → Type 0
StrangeVersion [] = ⊥
StrangeVersion (first ∷ bytes) = IsKnown (first / 16) → ⊥

-- there is a first byte of a known version, and it has the header's bit 8
abbrev pub StrangePart : List ℕ → Type 0
StrangePart [] = ⊥
StrangePart (first ∷ bytes) = IsKnown (first / 16) × (first / 8 % 2 ≡ 1)

-- why the bytes do not begin with a message
abbrev pub CauseOf : FrameFault → List ℕ → Type 0
CauseOf Short bytes = IsCut bytes
CauseOf UnknownVersion bytes = StrangeVersion bytes
CauseOf UnknownPart bytes = StrangePart bytes

-- what the bytes begin with: this message, with these bytes after it, or none for this reason
abbrev pub Begins : List ℕ → Begun → Type 0
Begins bytes (Ok x) = BeginsWith bytes x.0 x.1
Begins bytes (Err fault) = CauseOf fault bytes

-- the message at the front and how many bytes its spelling has, or why there is none
abbrev pub decoded : List ℕ → Result (MessageParts × ℕ) FrameFault
decoded bytes = result_map_both (λ x. (x.0, length (spelling x.0))) (λ fault. fault) (message_at bytes)
