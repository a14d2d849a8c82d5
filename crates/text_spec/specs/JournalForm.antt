-- The forms of a journal's lines: what the words of a line tell, none where they have no form. A number
-- of any length is one; whether it is in its range is not asked here.
-- Source: the text formats of this project (docs/FORMATS.md).
use Rattle.std.specs.Prelude.{◌∷◌}
use Rattle.text_spec.specs.Below.{ℕ, List, [], Option, codes, EventIndex, Act, Report, State, SetMode, Entry}
use Rattle.text_spec.specs.Contexts.{a_context}
use Rattle.text_spec.specs.Fields.{Form, the, a_number, a_stamp, a_mode, told_in_one}
use Rattle.text_spec.specs.JournalText.{Line, begins, enters, loses}

-- the index of an event
abbrev pub index : ℕ → EventIndex
index n = record { 0 = n }

-- an entry of these parts
abbrev pub entry_of : ℕ → ℕ → Act (List ℕ) → Entry (List ℕ)
entry_of caller call act = record { caller = caller; call = call; act = act }

-- a turn begins
abbrev pub turn_form : Form Line
turn_form = record {
  letter = codes "T";
  fields = a_number ∷ a_number ∷ a_number ∷ a_number ∷ [];
  makes = λ tick lost_events lost_contexts limited. begins (record { tick = tick; lost_events = lost_events; lost_contexts = lost_contexts; limited = limited });
}

-- a report
abbrev pub report_form : Form Line
report_form = record {
  letter = codes "R";
  fields = a_number ∷ a_number ∷ a_number ∷ a_number ∷ a_stamp ∷ a_context ∷ [];
  makes = λ caller call event count stamp context. enters (entry_of caller call (Report (index event) count stamp context));
}

-- a change of state
abbrev pub state_form : Form Line
state_form = record {
  letter = codes "C";
  fields = a_number ∷ a_number ∷ the (codes "S") ∷ a_number ∷ [];
  makes = λ caller call _ state. enters (entry_of caller call (State state));
}

-- a setting of a mode
abbrev pub setting_form : Form Line
setting_form = record {
  letter = codes "C";
  fields = a_number ∷ a_number ∷ the (codes "M") ∷ a_number ∷ a_mode ∷ [];
  makes = λ caller call _ event mode. enters (entry_of caller call (SetMode (index event) mode));
}

-- a loss
abbrev pub loss_form : Form Line
loss_form = record {
  letter = codes "L";
  fields = a_number ∷ a_number ∷ a_number ∷ [];
  makes = λ caller call given. loses (record { caller = caller; call = call; given = given });
}

-- the forms of a line
abbrev pub line_forms : List (Form Line)
line_forms = turn_form ∷ report_form ∷ state_form ∷ setting_form ∷ loss_form ∷ []

-- what the words of a line tell
abbrev pub told_by : List (List ℕ) → Option Line
told_by words = told_in_one line_forms words
