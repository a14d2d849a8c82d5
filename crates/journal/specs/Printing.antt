-- The text of some lines.
use Rattle.std.specs.Prelude.{ℕ, ◌+◌, ◌-◌, ◌*◌, ◌==◌, length, List, ◌∷◌, map, decimal, sum_by, if◌then◌else◌}
use Rattle.std.specs.List.{flat_map}
use Rattle.ids_types.specs.{Turn}
use Rattle.text_spec.specs.{point, Line, begins, enters, loses, line_for, text_of, turn_told}
use Rattle.text_spec.specs.JournalText.{Carried, Absent, Kept, Missing, Act, Report, Loss}

-- the text of lines
abbrev pub lines_text : List Line → List ℕ
lines_text lines = text_of (map line_for lines)

-- the text of a turn, of turns one after another, and of losses
abbrev pub turn_text : Turn → List ℕ
turn_text turn = lines_text (turn_told turn)

abbrev pub turns_text : List Turn → List ℕ
turns_text turns = flat_map turn_text turns

abbrev pub losses_text : List Loss → List ℕ
losses_text losses = lines_text (map loses losses)

-- number i of some, after a point unless it is the first
abbrev pub pointed : ℕ → ℕ → List ℕ
pointed i number = if i == 0 then decimal number else point ∷ decimal number

-- how many bytes the line of a report with this context has at most: two for each byte, or fifteen for each number and one less
abbrev pub most_with : Carried (List ℕ) → ℕ
most_with Absent = 48
most_with (Kept class claim bytes) = 64 + 2 * length bytes
most_with (Missing numbers) = 48 + (15 * length numbers - 1)

-- how many bytes the line of an act has at most
abbrev pub most_of : Act (List ℕ) → ℕ
most_of (Report event count stamp context) = most_with context
most_of other = 52

-- how many bytes a line has at most, with its line feed
abbrev pub most_bytes : Line → ℕ
most_bytes (begins head) = 67
most_bytes (enters entry) = most_of entry.act
most_bytes (loses loss) = 34

-- and all lines of a turn
abbrev pub most_for : Turn → ℕ
most_for turn = sum_by most_bytes (turn_told turn)
