-- Which lines of a trace have a form, whatever they tell.
-- Source: the text formats of this project (docs/FORMATS.md).
use Rattle.std.specs.Prelude.{◌≡◌, ◌⊎◌, ℕ, List, [], ◌∷◌, codes}
use Rattle.std.specs.List.{AllByRecursion}
use Rattle.text_spec.specs.{a_number, HasForm, trace_forms}

-- the words are `N` and any number of numbers
abbrev pub IsOpening : List (List ℕ) → Type 0
IsOpening [] = ⊥
IsOpening (word ∷ words) = (word ≡ codes "N") × AllByRecursion a_number.Writes words

-- the words are those of a line that begins a round, or of one of the four other forms
abbrev pub HasTraceForm : List (List ℕ) → Type 0
HasTraceForm words = IsOpening words ⊎ HasForm trace_forms words
