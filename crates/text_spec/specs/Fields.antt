-- Lines as lists of fields: what a field may hold, the word for each value, how a word is read, and
-- how the words of a line are read as its fields, one after another.
-- Source: the text formats of this project (docs/FORMATS.md).
use Rattle.std.specs.Prelude.{◌≡◌, ◌<◌, ◌^◌, ◌≤◌, ◌⊎◌, ◌∷◌, ◌++◌, if◌then◌else◌}
use Rattle.text_spec.specs.Below.{Bor, ℕ, true, bytes_eq, List, [], length, Option, Some, None, option_copied, option_map, IfSome, ⊤, decimal, IsBytes, encode_lower, Mode, Stamp, mode_name, mode_named}
use Rattle.text_spec.specs.Hexadecimal.{some_hex, stamp_in, stamp_text}
use Rattle.text_spec.specs.Maybe.{◌>>=◌, first_of, ended, or_else}
use Rattle.text_spec.specs.Numbers.{is_number, number_in, capped, greatest_told}
use Rattle.text_spec.specs.Words.{absent, line_feed, line_of, pieces_left, pieces_of}

-- a field of a line
pub record Field : Type 1 where
  -- the words that it may be
  pub Writes : List ℕ → Type 0
  -- its values, those of them that there are, and those that are told as they are
  pub Value : Type 0
  pub Held : Value → Type 0
  pub Exact : Value → Type 0
  -- the word for a value, and the value that a word is read as
  pub word : Value → List ℕ
  pub reading : List ℕ → Option Value

-- ---- fields

-- the field of these values, all told as they are: its words are those of the values that there are
abbrev pub simple : (Value : Type 0) → (Value → Type 0) → (Value → List ℕ) → (List ℕ → Option Value) → Field
simple Value Held word reading = record {
  Writes = λ w. (x : Value) × Held x × (w ≡ word x);
  Value = Value;
  Held = Held;
  Exact = λ _. ⊤;
  word = word;
  reading = reading;
}

-- this word
abbrev pub the : List ℕ → Field
the letter = simple ⊤ (λ _. ⊤) (λ _. letter) (λ word. if bytes_eq word letter then Some tt else None)

-- a number of any length: one that is too great is told as the greatest
abbrev pub a_number : Field
a_number = record {
  Writes = λ word. is_number word ≡ true;
  Value = ℕ;
  Held = λ _. ⊤;
  Exact = λ n. n < greatest_told;
  word = decimal;
  reading = λ word. option_map capped (number_in word);
}

-- an optional timestamp of 64 bits
abbrev pub a_stamp : Field
a_stamp = simple (Option Stamp) (λ stamp. IfSome stamp (λ s. s.0 < 2 ^ 64)) stamp_text stamp_in

-- a reporting mode
abbrev pub a_mode : Field
a_mode = simple Mode (λ _. ⊤) mode_name mode_named

-- a byte or more
abbrev pub hex_bytes : Field
hex_bytes = simple (List ℕ) (λ bytes. IsBytes bytes × (1 ≤ length bytes)) encode_lower some_hex

-- the word of bytes: `-` where there are none, or else hexadecimal
abbrev pub bytes_word : List ℕ → List ℕ
bytes_word [] = absent
bytes_word (byte ∷ bytes) = encode_lower (byte ∷ bytes)

-- the bytes that such a word writes
abbrev pub bytes_in : List ℕ → Option (List ℕ)
bytes_in word = if bytes_eq word absent then Some [] else some_hex word

-- any number of bytes
abbrev pub any_bytes : Field
any_bytes = simple (List ℕ) IsBytes bytes_word bytes_in

-- ---- fields with their values

-- a field and a value of it
pub record Filled : Type 1 where
  pub field : Field
  pub value : field.Value

-- the field with this value
abbrev pub put : (field : Field) → field.Value → Filled
put field value = record { field = field; value = value }

-- the words of fields
abbrev pub words_of_fields : List Filled → List (List ℕ)
words_of_fields [] = []
words_of_fields (one ∷ more) = one.field.word one.value ∷ words_of_fields more

-- the line of some fields, without its line feed
abbrev pub line_with : List Filled → List ℕ
line_with fields = line_of (words_of_fields fields)

-- the same with its line feed
abbrev pub ended_line : List Filled → List ℕ
ended_line fields = line_with fields ++ line_feed ∷ []

-- all values are ones that there are
abbrev pub AreHeld : List Filled → Type 0
AreHeld [] = ⊤
AreHeld (one ∷ more) = one.field.Held one.value × AreHeld more

-- all values are told as they are
abbrev pub AreExact : List Filled → Type 0
AreExact [] = ⊤
AreExact (one ∷ more) = one.field.Exact one.value × AreExact more

-- each word is one that the field at its place may be, and there are no others
abbrev pub AreWritten : List Field → List (List ℕ) → Type 0
AreWritten [] [] = ⊤
AreWritten [] (word ∷ words) = ⊥
AreWritten (field ∷ fields) [] = ⊥
AreWritten (field ∷ fields) (word ∷ words) = field.Writes word × AreWritten fields words

-- ---- reading

-- a way to make something of the values of fields
abbrev pub Makes : List Field → Type 0 → Type 0
Makes [] A = A
Makes (field ∷ fields) A = field.Value → Makes fields A

-- the value at the front, and the words after it
abbrev pub first_as : (field : Field) → List (List ℕ) → Option (field.Value × List (List ℕ))
first_as field words = first_of words >>= λ w. option_map (λ x. (x, w.1)) (field.reading w.0)

-- what was cut off a text: the number that its first piece is read as, and the text of the pieces after it
abbrev pub IsNumberOf : ℕ → List ℕ → Option (ℕ × Option (Bor (List ℕ))) → Type 0
IsNumberOf separator text cut =
    option_map (λ x. (x.0, pieces_left separator (option_copied x.1))) cut ≡ first_as a_number (pieces_of separator text)

-- what is made of the values of words, where each is read as the field at its place
abbrev pub read_by : {A : Type 0} → (fields : List Field) → Makes fields A → List (List ℕ) → Option A
read_by [] made words = ended made words
read_by (field ∷ fields) makes words = first_as field words >>= λ x. read_by fields (makes x.0) x.1

-- a form of lines: its letter, and the fields after it
pub record Form (A : Type 0) : Type 1 where
  pub letter : List ℕ
  pub fields : List Field
  pub makes : Makes fields A

-- what the words after the letter tell
abbrev pub behind : {A : Type 0} → Form A → List (List ℕ) → Option A
behind form words = read_by form.fields form.makes words

-- what the words of a line tell, where it has this form
abbrev pub told_in : {A : Type 0} → Form A → List (List ℕ) → Option A
told_in form words = first_as (the form.letter) words >>= λ x. behind form x.1

-- what the words of a line tell, in the first of these forms that it has
abbrev pub told_in_one : {A : Type 0} → List (Form A) → List (List ℕ) → Option A
told_in_one [] words = None
told_in_one (form ∷ forms) words = or_else (told_in form words) (told_in_one forms words)

-- the words are those of a line in one of these forms, whatever it tells
abbrev pub HasForm : {A : Type 0} → List (Form A) → List (List ℕ) → Type 0
HasForm [] words = ⊥
HasForm (form ∷ forms) words = AreWritten (the form.letter ∷ form.fields) words ⊎ HasForm forms words
