-- Which journal a text is, and where it has a fault: the first bad line and its first fault.
-- Source: the text formats of this project (docs/FORMATS.md).
use Rattle.std.specs.Prelude.{◌≡◌, ◌≢◌, ◌<◌, ◌≤◌}
use Rattle.text_spec.specs.Below.{ℕ, List, Result, Ok, ⊤, AllByRecursion, Parts}
use Rattle.text_spec.specs.Fields.{AreHeld}
use Rattle.text_spec.specs.JournalFaults.{Past, fault_of, next, start, pair_of}
use Rattle.text_spec.specs.JournalForm.{told_by}
use Rattle.text_spec.specs.JournalText.{Told, Line, begins, enters, loses, fields_of, lines_told, journal_text}
use Rattle.text_spec.specs.Lines.{Grammar, BadLine, AreFaultless, past_in, ◌>>=◌}

-- how a journal is read
abbrev pub journal_grammar : Parts → Grammar Past Line
journal_grammar config = record { told_by = told_by; fault_of = fault_of config; next = next; end_fault = λ past. Ok tt }

-- ---- which journals there are

-- what a line tells can be held: its timestamp has 64 bits, and so on for each field
abbrev pub IsHeld : Line → Type 0
IsHeld line = AreHeld (fields_of line)

-- turns and losses that can be held fit a configuration: none of their lines has a fault
pub record Fits (config : Parts) (told : Told) : Type 0 where
  pub held : AllByRecursion IsHeld (lines_told told)
  pub faultless : AreFaultless (journal_grammar config) start (lines_told told)

-- the text is the journal of these turns and losses, which fit
pub record IsJournal (config : Parts) (text : List ℕ) (told : Told) : Type 0 where
  pub fits : Fits config told
  pub is_text : text ≡ journal_text told

-- how of two lines the later one follows the earlier: ticks never fall, a caller's calls rise, the pairs of
-- losses rise and none is an entry's, and after a loss stand losses alone
abbrev pub Follows : Line → Line → Type 0
Follows (begins one) (begins other) = one.tick ≤ other.tick
Follows (begins one) (enters other) = ⊤
Follows (begins one) (loses other) = ⊤
Follows (enters one) (begins other) = ⊤
Follows (enters one) (enters other) = one.caller ≡ other.caller → one.call < other.call
Follows (enters one) (loses other) = pair_of one.caller one.call ≢ pair_of other.caller other.call
Follows (loses one) (begins other) = ⊥
Follows (loses one) (enters other) = ⊥
Follows (loses one) (loses other) = pair_of one.caller one.call < pair_of other.caller other.call

-- ---- the reading of a text

-- what the text tells, or its first bad line
abbrev pub journal_in : Parts → List ℕ → Result Told BadLine
journal_in config text = past_in (journal_grammar config) start text >>= λ past. Ok past.told
