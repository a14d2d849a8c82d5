-- Lines of a text, each ended by a line feed, and the words of a line, one space between each two.
-- Source: the text formats of this project.
use Rattle.std.specs.Prelude.{◌≡◌, ◌<◌, ◌≤◌, ◌+◌, ◌==◌, ◌∷◌, ◌++◌}
use Rattle.ids_types.specs.declared.memory.NoMemory.{NoMemory}
use Rattle.text_spec.specs.Below.{Vec, vec_len, vec_capacity, length, Option, Some, None, ℕ, Bool, not, List, [], OnErr, OnOk, Result, codes, slice_split, join_with_byte}

-- the character between two words
abbrev pub space : ℕ
space = 32

-- the character that ends a line
abbrev pub line_feed : ℕ
line_feed = 10

-- the word for no value
abbrev pub absent : List ℕ
absent = codes "-"

-- the pieces of a text between the bytes that are the separator
abbrev pub pieces_of : ℕ → List ℕ → List (List ℕ)
pieces_of separator text = slice_split (λ b. b == separator) text

-- the pieces between the bytes that are the separator, none where there is no text
abbrev pub pieces_left : ℕ → Option (List ℕ) → List (List ℕ)
pieces_left separator None = []
pieces_left separator (Some text) = pieces_of separator text

-- whether a byte is another one than the separator
abbrev pub differs : ℕ → ℕ → Bool
differs separator byte = not (byte == separator)

-- the words of a line: the pieces between spaces, so that an empty line has one empty word
abbrev pub words_of : List ℕ → List (List ℕ)
words_of line = pieces_of space line

-- the line of some words, without its line feed
abbrev pub line_of : List (List ℕ) → List ℕ
line_of words = join_with_byte space words

-- the text of some lines, each ended by a line feed
abbrev pub text_of : List (List ℕ) → List ℕ
text_of [] = []
text_of (line ∷ lines) = line ++ line_feed ∷ text_of lines

-- the text was written behind what was there, and there is no less room than before
pub record Written {Z : Type 0} (old new : Vec ℕ Z) (text : List ℕ) : Type 0 where
  pub items : new.items ≡ old.items ++ text
  pub len : vec_len new ≡ vec_len old + length text
  pub capacity : vec_capacity old ≤ vec_capacity new

-- it is appended, or there is too little room for it, which is never less than before
pub record Appends {Z : Type 0} (old new : Vec ℕ Z) (result : Result (Unit {0}) NoMemory) (text : List ℕ) : Type 0 where
  pub ok : OnOk result (new.items ≡ old.items ++ text)
  pub full : OnErr result (vec_capacity old < vec_len old + length text)
  pub capacity : vec_capacity old ≤ vec_capacity new
