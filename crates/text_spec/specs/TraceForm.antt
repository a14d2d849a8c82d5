-- The forms of a trace's lines: what the words of a line tell, none where they have no form. A number of any
-- length is one; whether it is in its range is not asked here.
-- Source: the text formats of this project (docs/FORMATS.md).
use Rattle.std.specs.Prelude.{◌∷◌}
use Rattle.text_spec.specs.Below.{ℕ, List, [], Option, option_map, codes, length, reports, changes, sets}
use Rattle.text_spec.specs.Contexts.{numbers_in}
use Rattle.text_spec.specs.Fields.{Form, the, a_number, a_stamp, a_mode, any_bytes, first_as, told_in_one}
use Rattle.text_spec.specs.JournalForm.{index}
use Rattle.text_spec.specs.Maybe.{◌>>=◌, or_else}
use Rattle.text_spec.specs.TraceText.{TraceLine, opens, calls, closes}

-- a report
abbrev pub asked_report_form : Form TraceLine
asked_report_form = record {
  letter = codes "R";
  fields = a_number ∷ a_number ∷ a_number ∷ a_stamp ∷ any_bytes ∷ [];
  makes = λ caller event count stamp bytes. calls caller (reports (index event) count stamp bytes);
}

-- a change of state
abbrev pub asked_state_form : Form TraceLine
asked_state_form = record {
  letter = codes "S";
  fields = a_number ∷ a_number ∷ [];
  makes = λ caller state. calls caller (changes state);
}

-- a setting of a mode
abbrev pub asked_mode_form : Form TraceLine
asked_mode_form = record {
  letter = codes "M";
  fields = a_number ∷ a_number ∷ a_mode ∷ [];
  makes = λ caller event mode. calls caller (sets (index event) mode);
}

-- a round ends
abbrev pub round_end_form : Form TraceLine
round_end_form = record {
  letter = codes "E";
  fields = a_number ∷ [];
  makes = λ tick. closes tick;
}

-- the forms of a line, but for that of a round that begins
abbrev pub trace_forms : List (Form TraceLine)
trace_forms = asked_report_form ∷ asked_state_form ∷ asked_mode_form ∷ round_end_form ∷ []

-- a round begins: `N`, and any number of ticks
abbrev pub opening_in : List (List ℕ) → Option TraceLine
opening_in words = first_as (the (codes "N")) words >>= λ w. option_map opens (numbers_in (length w.1) w.1)

-- what the words of a line tell
abbrev pub trace_told_by : List (List ℕ) → Option TraceLine
trace_told_by words = or_else (opening_in words) (told_in_one trace_forms words)
