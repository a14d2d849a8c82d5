-- The word of a report's context: `-`, `CLASS:CLAIM:HEX`, or `!` and the numbers that were claimed.
-- Source: the text formats of this project (docs/FORMATS.md).
use Rattle.std.specs.Prelude.{◌≡◌, ◌⊎◌, ◌≤◌, ◌==◌, ◌∷◌, if◌then◌else◌}
use Rattle.text_spec.specs.Below.{ℕ, zero, suc, bytes_eq, List, [], length, map, Option, Some, None, option_map, decimal, ⊤, AllByRecursion, slice_split, join_with_byte, Carried, Absent, Kept, Missing}
use Rattle.text_spec.specs.Fields.{Field, Filled, a_number, hex_bytes, put, words_of_fields, AreHeld, AreExact, AreWritten, read_by}
use Rattle.text_spec.specs.Maybe.{◌>>=◌}
use Rattle.text_spec.specs.Words.{absent}

-- the characters `:`, `.` and `!`
abbrev pub colon : ℕ
colon = 58

abbrev pub point : ℕ
point = 46

abbrev pub mark : ℕ
mark = 33

-- ---- the word of a context

-- the fields of a context that was kept
abbrev pub kept_fields : ℕ → ℕ → List ℕ → List Filled
kept_fields class claim bytes = put a_number class ∷ put a_number claim ∷ put hex_bytes bytes ∷ []

-- the word of a context
abbrev pub context_word : Carried (List ℕ) → List ℕ
context_word Absent = absent
context_word (Kept class claim bytes) = join_with_byte colon (words_of_fields (kept_fields class claim bytes))
context_word (Missing numbers) = mark ∷ join_with_byte point (map decimal numbers)

-- a context's bytes are bytes, and the numbers of a missing one at most four
abbrev pub IsContext : Carried (List ℕ) → Type 0
IsContext Absent = ⊤
IsContext (Kept class claim bytes) = AreHeld (kept_fields class claim bytes)
IsContext (Missing numbers) = length numbers ≤ 4

-- the numbers of a context are told as they are, and a kept one has some bytes
abbrev pub IsExactContext : Carried (List ℕ) → Type 0
IsExactContext Absent = ⊤
IsExactContext (Kept class claim bytes) = AreExact (kept_fields class claim bytes)
IsExactContext (Missing numbers) = AllByRecursion a_number.Exact numbers

-- the fields of `CLASS:CLAIM:HEX`
abbrev pub kept_places : List Field
kept_places = a_number ∷ a_number ∷ hex_bytes ∷ []

-- the words that a context may be: `-`, `CLASS:CLAIM:HEX`, or `!` and zero to four numbers with points between them
abbrev pub IsContextWord : List ℕ → Type 0
IsContextWord word =
    (word ≡ absent)
    ⊎ ((pieces : List (List ℕ)) × AreWritten kept_places pieces × (word ≡ join_with_byte colon pieces))
    ⊎ ((numbers : List (List ℕ)) × AllByRecursion a_number.Writes numbers × (length numbers ≤ 4) × (word ≡ mark ∷ join_with_byte point numbers))

-- ---- its reading

-- `CLASS:CLAIM:HEX`, by its pieces
abbrev pub kept_in : List (List ℕ) → Option (Carried (List ℕ))
kept_in pieces = read_by kept_places (λ class claim bytes. Kept class claim bytes) pieces

-- the number of each piece, where they are at most so many
abbrev pub numbers_in : ℕ → List (List ℕ) → Option (List ℕ)
numbers_in most [] = Some []
numbers_in zero (piece ∷ pieces) = None
numbers_in (suc most) (piece ∷ pieces) = a_number.reading piece >>= λ n. option_map (λ ns. n ∷ ns) (numbers_in most pieces)

-- zero to four numbers with points between them
abbrev pub claims_in : List ℕ → Option (List ℕ)
claims_in [] = Some []
claims_in (byte ∷ bytes) = numbers_in 4 (slice_split (λ b. b == point) (byte ∷ bytes))

-- the context that a word writes
abbrev pub context_in : List ℕ → Option (Carried (List ℕ))
context_in [] = None
context_in (first ∷ rest) =
    if first == mark then option_map Missing (claims_in rest)
    else if bytes_eq (first ∷ rest) absent then Some Absent
    else kept_in (slice_split (λ b. b == colon) (first ∷ rest))

-- the field of a context
abbrev pub a_context : Field
a_context = record {
  Writes = IsContextWord;
  Value = Carried (List ℕ);
  Held = IsContext;
  Exact = IsExactContext;
  word = context_word;
  reading = context_in;
}
