-- The layout of a message: "IDS message profile 1" and "2", which are this project's own, after the
-- event message of the AUTOSAR PRS Intrusion Detection System. The two differ in the version that the
-- first byte says, and in what the last byte of the event part is called.
use Rattle.std.specs.Prelude.{ℕ, ◌+◌, ◌*◌, ◌^◌, List, [], ◌∷◌, ◌++◌, length, Option, Some, None}
use Rattle.std.specs.Int.{w16, w32, w64, to_be_bytes}
use Rattle.ids_types.specs.declared.names.Stamp.{Stamp}
use Rattle.ids_frame.specs.declared.context.Form.{Form}
use Rattle.ids_frame.specs.declared.context.Form.TheVariants.{Short, Long}
use Rattle.ids_frame.specs.Context.{ContextPart}
use Rattle.ids_frame.specs.Message.{MessageParts}

-- one where the part is there
abbrev pub flag : {A : Type 0} → Option A → ℕ
flag None = 0
flag (Some part) = 1

-- which parts follow the event part
abbrev pub header : MessageParts → ℕ
header m = flag m.context + 2 * flag m.stamp + 4 * flag m.signature

-- the event part, of eight bytes
abbrev pub event_part : MessageParts → List ℕ
event_part m =
    (m.version * 16 + header m) ∷ to_be_bytes w16 (m.instance * 64 + m.sensor)
    ++ to_be_bytes w16 m.event ++ to_be_bytes w16 m.count ++ m.reserved ∷ []

-- the timestamp, of eight bytes
abbrev pub stamp_part : Option Stamp → List ℕ
stamp_part None = []
stamp_part (Some stamp) = to_be_bytes w64 stamp.0

-- a context's length, in one byte or in four of which the first bit is set
abbrev pub length_in : Form → ℕ → List ℕ
length_in Short size = size ∷ []
length_in Long size = to_be_bytes w32 (2 ^ 31 + size)

-- the context's length, and its bytes
abbrev pub context_part : Option ContextPart → List ℕ
context_part None = []
context_part (Some c) = length_in c.form (length c.bytes) ++ c.bytes

-- the signature's length in two bytes, and its bytes
abbrev pub signature_part : Option (List ℕ) → List ℕ
signature_part None = []
signature_part (Some bytes) = to_be_bytes w16 (length bytes) ++ bytes

-- the message's one spelling
abbrev pub spelling : MessageParts → List ℕ
spelling m =
    event_part m ++ stamp_part m.stamp ++ context_part m.context ++ signature_part m.signature
