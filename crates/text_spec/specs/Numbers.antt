-- Numbers of a text, in decimal: `0`, or a digit 1 to 9 followed by digits. The text of a number n is
-- `decimal n`.
-- Source: the text formats of this project.
use Rattle.std.specs.Prelude.{◌≤◌, ◌<◌, ◌≡◌, ◌-◌, ◌^◌, ◌==◌, ◌&&◌, ◌||◌, ◌∷◌, if◌then◌else◌}
use Rattle.text_spec.specs.Below.{true, take, slice_index, ℕ, min, not, Bool, false, List, [], length, Option, Some, None, list_all, is_ascii_digit, digits_value}

-- the character `0`
abbrev pub zero_digit : ℕ
zero_digit = 48

-- whether a word is a number: digits alone, and none after a `0` that stands first
abbrev pub is_number : List ℕ → Bool
is_number [] = false
is_number (first ∷ rest) =
    list_all is_ascii_digit (first ∷ rest) && (not (first == zero_digit) || length rest == 0)

-- the number that a word writes, of any length
abbrev pub number_in : List ℕ → Option ℕ
number_in word = if is_number word then Some (digits_value 10 word) else None

-- the greatest number that is told as it is
abbrev pub greatest_told : ℕ
greatest_told = 2 ^ 64 - 1

-- a number as it is told: a greater one as the greatest
abbrev pub capped : ℕ → ℕ
capped n = min n greatest_told

-- the first i bytes of a text are digits and none of them is the separator, and this is their value
pub record AreDigits (separator : ℕ) (text : List ℕ) (i value : ℕ) : Type 0 where
  pub within : i ≤ length text
  pub free : (k : ℕ) → k < i → (slice_index text k == separator) ≡ false
  pub digits : list_all is_ascii_digit (take i text) ≡ true
  pub is_value : value ≡ capped (digits_value 10 (take i text))
