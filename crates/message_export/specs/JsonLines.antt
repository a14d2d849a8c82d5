-- Messages as lines of JSON: an object for each, of the same members in the same order.
-- Source: the text formats of this project (docs/FORMATS.md), and JSON (RFC 8259).
use Rattle.std.specs.Prelude.{◌∷◌, ◌++◌, ◌+◌, ◌==◌, if◌then◌else◌}
use Rattle.text_spec.specs.Below.{ℕ, List, [], length, codes, decimal, Option, Some, None, encode_lower, flat_map, join_with_byte, to_be_bytes, w64}
use Rattle.ids_types.specs.declared.names.Stamp.{Stamp}
use Rattle.ids_frame.specs.declared.context.Form.{Form}
use Rattle.ids_frame.specs.declared.context.Form.TheVariants.{Short, Long}
use Rattle.ids_frame.specs.{ContextPart, MessageParts, spelling}
use Rattle.text_spec.specs.Words.{line_feed}
use Rattle.message_export.specs.Capture.{seconds_of, nanoseconds_of}

-- ---- JSON

-- the character between two members
abbrev pub comma : ℕ
comma = 44

-- a text in quotes, of characters that JSON takes as they are
abbrev pub quoted : List ℕ → List ℕ
quoted text = 34 ∷ (text ++ 34 ∷ [])

-- bytes in hexadecimal, in quotes
abbrev pub hexadecimal : List ℕ → List ℕ
hexadecimal bytes = quoted (encode_lower bytes)

-- the value of what may be absent
abbrev pub or_null : {A : Type 0} → (A → List ℕ) → Option A → List ℕ
or_null value None = codes "null"
or_null value (Some part) = value part

-- a member: its name and its value
abbrev pub member : List ℕ → List ℕ → List ℕ
member name value = quoted name ++ 58 ∷ value

-- an object of some members
abbrev pub object : List (List ℕ) → List ℕ
object members = codes "{" ++ join_with_byte comma members ++ codes "}"

-- members after others, each after a comma
abbrev pub continued : List (List ℕ) → List ℕ
continued members = flat_map (λ text. comma ∷ text) members

-- ---- the object of a message

-- a member with a number
abbrev pub number : List ℕ → ℕ → List ℕ
number name value = member name (decimal value)

-- who saw what, and how often, under which version of the layout
abbrev pub event_members : MessageParts → List (List ℕ)
event_members m =
    number (codes "version") m.version ∷ number (codes "instance") m.instance ∷ number (codes "sensor") m.sensor
    ∷ number (codes "event") m.event ∷ number (codes "count") m.count ∷ []

-- the last byte of the event part, by what the version calls it: reserved, or the version of the context data
abbrev pub byte_members : ℕ → ℕ → List (List ℕ)
byte_members version byte =
    member (codes "reserved") (if version == 2 then codes "null" else decimal byte)
    ∷ member (codes "context_version") (if version == 2 then decimal byte else codes "null") ∷ []

-- the timestamp, of which no bit is lost in quotes, and two of its parts
abbrev pub stamp_members : Option Stamp → List (List ℕ)
stamp_members stamp =
    member (codes "timestamp") (or_null (λ s. hexadecimal (to_be_bytes w64 s.0)) stamp)
    ∷ member (codes "seconds") (or_null (λ s. decimal (seconds_of s)) stamp)
    ∷ member (codes "nanoseconds") (or_null (λ s. decimal (nanoseconds_of s)) stamp) ∷ []

-- the word for a context's form
abbrev pub form_word : Form → List ℕ
form_word Short = codes "short"
form_word Long = codes "long"

-- the context, and the form of its length
abbrev pub context_members : Option ContextPart → List (List ℕ)
context_members context =
    member (codes "context_form") (or_null (λ c. quoted (form_word c.form)) context)
    ∷ member (codes "context") (or_null (λ c. hexadecimal c.bytes) context) ∷ []

-- the signature
abbrev pub signature_members : Option (List ℕ) → List (List ℕ)
signature_members signature = member (codes "signature") (or_null hexadecimal signature) ∷ []

-- the members of a message that stands after so many bytes
abbrev pub members : ℕ → MessageParts → List (List ℕ)
members offset m =
    number (codes "offset") offset
    ∷ (event_members m ++ (byte_members m.version m.reserved
    ++ (stamp_members m.stamp ++ (context_members m.context ++ signature_members m.signature))))

-- the line of a message that stands after so many bytes, without its line feed
abbrev pub json_line : ℕ → MessageParts → List ℕ
json_line offset m = object (members offset m)

-- ---- the text of messages

-- the lines of messages, the first of which stands after so many bytes
abbrev pub json_lines : ℕ → List MessageParts → List ℕ
json_lines offset [] = []
json_lines offset (m ∷ messages) =
    (json_line offset m ++ line_feed ∷ []) ++ json_lines (offset + length (spelling m)) messages

-- the lines of the messages of a file
abbrev pub exported_json : List MessageParts → List ℕ
exported_json messages = json_lines 0 messages
