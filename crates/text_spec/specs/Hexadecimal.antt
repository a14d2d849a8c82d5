-- Bytes of a text, in lower-case hexadecimal: two digits each. The text of bytes is `encode_lower` of
-- the crate hex.
-- Source: the text formats of this project.
use Rattle.std.specs.Prelude.{◌≤◌, ◌≡◌, ◌/◌, ◌%◌, ◌||◌, ◌∷◌, if◌then◌else◌, ◌==◌}
use Rattle.text_spec.specs.Below.{length, ℕ, slice_index, Bool, List, [], Option, Some, None, unwrap_or, is_in_range, list_all, decode_of, lower_digits, bytes_eq, option_and_then, w64, to_be_bytes, from_be_bytes, encode_lower, Stamp}
use Rattle.std.specs.Result.{result_ok}
use Rattle.text_spec.specs.declared.hex_text.HexText.TheInside.{Inside}
use Rattle.text_spec.specs.Maybe.{◌>>=◌}
use Rattle.text_spec.specs.Words.{absent}

-- whether this character is a digit of lower-case hexadecimal: `0` to `9` or `a` to `f`
abbrev pub is_lower_digit : ℕ → Bool
is_lower_digit c = is_in_range 48 57 c || is_in_range 97 102 c

-- the bytes that a word writes in lower-case hexadecimal
abbrev pub hex_in : List ℕ → Option (List ℕ)
hex_in word = if list_all is_lower_digit word then result_ok (decode_of word) else None

-- the byte is written by these two digits
pub record IsWritten (byte first second : ℕ) : Type 0 where
  pub high : slice_index lower_digits (byte / 16) ≡ first
  pub low : slice_index lower_digits (byte % 16) ≡ second

-- a byte or more
abbrev pub some_bytes : List ℕ → Option (List ℕ)
some_bytes [] = None
some_bytes (byte ∷ bytes) = Some (byte ∷ bytes)

-- the bytes of a word of two hexadecimal digits or more
abbrev pub some_hex : List ℕ → Option (List ℕ)
some_hex word = hex_in word >>= some_bytes

-- the bytes of a word of digits, none where it has no bytes
abbrev pub bytes_of : List ℕ → List ℕ
bytes_of word = unwrap_or (hex_in word) []

-- ---- what contracts see of a `HexText`

-- the bytes of the digits
abbrev pub lent_bytes : Inside → List ℕ
lent_bytes h = bytes_of h.digits.now

-- the digits are the text of a byte or more
pub record IsText (h : Inside) : Type 0 where
  pub read : hex_in h.digits.now ≡ Some (bytes_of h.digits.now)
  pub some : 1 ≤ length (bytes_of h.digits.now)

-- ---- the optional timestamp: `-`, or 16 digits, the high ones first

-- the text of an optional timestamp
abbrev pub stamp_text : Option Stamp → List ℕ
stamp_text None = absent
stamp_text (Some stamp) = encode_lower (to_be_bytes w64 stamp.0)

-- the timestamp of eight bytes, the high ones first
abbrev pub stamp_of_bytes : List ℕ → Option (Option Stamp)
stamp_of_bytes bytes =
    if length bytes == 8 then Some (Some (record { 0 = from_be_bytes w64 bytes })) else None

-- the optional timestamp that a word writes
abbrev pub stamp_in : List ℕ → Option (Option Stamp)
stamp_in word =
    if bytes_eq word absent then Some None else option_and_then stamp_of_bytes (hex_in word)
