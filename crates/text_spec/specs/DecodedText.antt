-- Decoded messages, a line for each.
-- Source: the text formats of this project (docs/FORMATS.md).
use Rattle.std.specs.Prelude.{◌∷◌, ◌++◌, ◌==◌, if◌then◌else◌}
use Rattle.text_spec.specs.Below.{ℕ, List, [], map, codes, decimal, Option, Some, None, encode_lower}
use Rattle.ids_frame.specs.declared.context.Form.{Form}
use Rattle.ids_frame.specs.declared.context.Form.TheVariants.{Short, Long}
use Rattle.ids_frame.specs.{ContextPart, MessageParts}
use Rattle.text_spec.specs.Words.{absent, line_of, text_of}
use Rattle.text_spec.specs.Hexadecimal.{stamp_text}

-- the letter of a context's form: `s` for the short one, `l` for the long one
abbrev pub form_letter : Form → ℕ
form_letter Short = 115
form_letter Long = 108

-- the word of a context: `-`, or its form and its bytes in hexadecimal
abbrev pub shown_context : Option ContextPart → List ℕ
shown_context None = absent
shown_context (Some context) = form_letter context.form ∷ (codes ":" ++ encode_lower context.bytes)

-- the word of a signature: `-`, or `=` and its bytes in hexadecimal
abbrev pub shown_signature : Option (List ℕ) → List ℕ
shown_signature None = absent
shown_signature (Some bytes) = codes "=" ++ encode_lower bytes

-- the first word of the line of a message: it tells the two layouts apart
abbrev pub layout_word : ℕ → List ℕ
layout_word version = if version == 2 then codes "M2" else codes "M"

-- the line `M INSTANCE SENSOR EVENT COUNT RESERVED STAMP CONTEXT SIGNATURE` of a message, without its line feed, where
-- `M2` is in place of `M` for a message of the second layout
abbrev pub message_line : MessageParts → List ℕ
message_line m =
    line_of (layout_word m.version ∷ decimal m.instance ∷ decimal m.sensor ∷ decimal m.event ∷ decimal m.count
    ∷ decimal m.reserved ∷ stamp_text m.stamp ∷ shown_context m.context
    ∷ shown_signature m.signature ∷ [])

-- the lines of messages
abbrev pub decoded_text : List MessageParts → List ℕ
decoded_text messages = text_of (map message_line messages)
