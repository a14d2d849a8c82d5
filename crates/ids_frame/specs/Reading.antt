-- Reading a message from left to right: each part from the front of bytes, with the bytes that are
-- left, or nothing where the bytes end before the part does.
-- Source: the layout of specs/Spelling.antt.
use Rattle.std.specs.Prelude.{◌≡◌, ℕ, ◌-◌, ◌/◌, ◌%◌, ◌^◌, ◌==◌, ◌&&◌, nat_le, nat_lt, Bool, true, false, List, [], ◌∷◌, length, take, drop, Option, Some, None, ok_or, Result, Err, if◌then◌else◌}
use Rattle.std.specs.Int.{Width, w16, w32, w64, byte_len, from_be_bytes}
use Rattle.ids_types.specs.declared.names.Stamp.{Stamp}
use Rattle.ids_frame.specs.declared.context.Form.{Form}
use Rattle.ids_frame.specs.declared.context.Form.TheVariants as forms
use Rattle.ids_frame.specs.declared.fault.FrameFault.{FrameFault}
use Rattle.ids_frame.specs.declared.fault.FrameFault.TheVariants.{Short, UnknownVersion, UnknownPart}
use Rattle.ids_frame.specs.Context.{ContextPart}
use Rattle.ids_frame.specs.Message.{MessageParts, last_version}

-- a part and the bytes after it, where it is there
abbrev pub Read : Type 0 → Type 0
Read A = Option (A × List ℕ)

infixl 10 ◌>>=◌
-- the second step, where the first found its part
abbrev pub ◌>>=◌ : {A B : Type 0} → Option A → (A → Option B) → Option B
None >>= f = None
(Some x) >>= f = f x

-- what a function returned, seen by `view`, is what was read
abbrev pub Gives : {X A : Type 0} → (X → A × List ℕ) → Option X → Read A → Type 0
Gives view (Some x) read = read ≡ Some (view x)
Gives view None read = read ≡ None

-- so many bytes
abbrev pub bytes_at : ℕ → List ℕ → Read (List ℕ)
bytes_at count bytes =
    if nat_lt (length bytes) count then None else Some (take count bytes, drop count bytes)

-- one byte
abbrev pub byte_at : List ℕ → Read ℕ
byte_at [] = None
byte_at (byte ∷ bytes) = Some (byte, bytes)

-- a number, its high byte first
abbrev pub number_at : Width → List ℕ → Read ℕ
number_at w bytes = do
  front ← bytes_at (byte_len w) bytes
  Some (from_be_bytes w front.0, front.1)

-- a part that is there or not
abbrev pub optional : {A : Type 0} → Bool → (List ℕ → Read A) → List ℕ → Read (Option A)
optional false read bytes = Some (None, bytes)
optional true read bytes = do
  part ← read bytes
  Some (Some part.0, part.1)

-- a timestamp
unfoldable pub stamp_at : List ℕ → Read Stamp
stamp_at bytes = do
  number ← number_at w64 bytes
  Some (record { 0 = number.0 }, number.1)

-- a context's form and how many bytes it has
unfoldable pub length_at : List ℕ → Read (Form × ℕ)
length_at [] = None
length_at (first ∷ bytes) =
    if nat_lt first 128
    then Some ((forms.Short, first), bytes)
    else (number_at w32 (first ∷ bytes) >>= λ size. Some ((forms.Long, size.0 - 2 ^ 31), size.1))

-- a context
unfoldable pub context_at : List ℕ → Read ContextPart
context_at bytes = do
  size ← length_at bytes
  held ← bytes_at size.0.1 size.1
  Some (record { form = size.0.0; bytes = held.0 }, held.1)

-- a signature
unfoldable pub signature_at : List ℕ → Read (List ℕ)
signature_at bytes = do
  size ← number_at w16 bytes
  held ← bytes_at size.0 size.1
  Some (held.0, held.1)

-- whether there is a layout of this version
abbrev pub has_layout : ℕ → Bool
has_layout version = nat_le 1 version && nat_le version last_version

-- whether a message's first byte has this bit of the header
abbrev pub has : ℕ → ℕ → Bool
has bit first = first / bit % 2 == 1

-- the message of these parts
abbrev pub message_of : (first place event count reserved : ℕ)
    → Option Stamp → Option ContextPart → Option (List ℕ) → MessageParts
message_of first place event count reserved stamp context signature = record {
  version = first / 16;
  instance = place / 64;
  sensor = place % 64;
  event = event;
  count = count;
  reserved = reserved;
  stamp = stamp;
  context = context;
  signature = signature;
}

-- a message after its first byte
unfoldable pub parts_at : ℕ → List ℕ → Read MessageParts
parts_at first bytes = do
  place ← number_at w16 bytes
  event ← number_at w16 place.1
  count ← number_at w16 event.1
  reserved ← byte_at count.1
  stamp ← optional (has 2 first) stamp_at reserved.1
  context ← optional (has 1 first) context_at stamp.1
  signature ← optional (has 4 first) signature_at context.1
  Some (
    message_of first place.0 event.0 count.0 reserved.0 stamp.0 context.0 signature.0,
    signature.1,
  )

-- a message and the bytes after it, or why there is none
abbrev pub Begun : Type 0
Begun = Result (MessageParts × List ℕ) FrameFault

-- what is read at the front of bytes
unfoldable pub message_at : List ℕ → Begun
message_at [] = Err Short
message_at (first ∷ bytes) =
    if has_layout (first / 16)
    then (if has 8 first then Err UnknownPart else ok_or (parts_at first bytes) Short)
    else Err UnknownVersion
