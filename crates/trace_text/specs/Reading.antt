-- What a line in form tells, as the definitions of the trace's text see it, and what a `Reader` stands for.
use Rattle.std.specs.Prelude.{ℕ, ◌<◌, ◌^◌, Bool, List, [], Option, Some, None, Result, Ok, ⊤, if◌then◌else◌}
use Rattle.ids_config.specs.Parts.{Parts}
use Rattle.ids_config.specs.Steps.{◌>>◌}
use Rattle.text_spec.specs.{PastRounds, next_rounds}
use Rattle.text_spec.specs.JournalForm.{index}
use Rattle.text_spec.specs.TraceText.{Asked, reports, changes, sets, TraceLine, calls, closes}
use Rattle.trace_text.specs.declared.form.RawAct.{RawAct}
use Rattle.trace_text.specs.declared.form.RawAct.TheVariants as acts
use Rattle.trace_text.specs.declared.form.RawLine.{RawLine}
use Rattle.trace_text.specs.declared.form.RawLine.TheVariants as lines
use Rattle.trace_text.specs.declared.reader.Reader.{Reader}

-- the bytes of a context, none where it is absent
abbrev pub context_told : Option (List ℕ) → List ℕ
context_told None = []
context_told (Some bytes) = bytes

-- the act, with its context's bytes
abbrev pub act_told : RawAct → Asked
act_told (acts.Report event count stamp context) = reports (index event) count stamp (context_told context)
act_told (acts.State state) = changes state
act_told (acts.SetMode event mode) = sets (index event) mode

-- the line, with its context's bytes
abbrev pub line_told : RawLine → TraceLine
line_told (lines.Call caller act) = calls caller (act_told act)
line_told (lines.Close tick) = closes tick

-- the numbers, where all words are numbers
abbrev pub where_all : Bool → List ℕ → Option (List ℕ)
where_all all numbers = if all then Some numbers else None

-- an event and a count of 16 bits, a state of 8
abbrev pub IsTyped : Asked → Type 0
IsTyped (reports event count stamp bytes) = (event.0 < 2 ^ 16) × (count < 2 ^ 16)
IsTyped (changes state) = state < 2 ^ 8
IsTyped (sets event mode) = event.0 < 2 ^ 16

-- the lines that were read
abbrev pub past_of : Reader → PastRounds
past_of r = record { rounds = r.trace.rounds; is_open = r.is_open }

-- the configuration that it reads by
abbrev pub config_of : Reader → Parts
config_of r = r.config.now

-- the lines so far with one more, where it has no fault
abbrev pub added : Parts → PastRounds → TraceLine → Result ⊤ ℕ → Result PastRounds ℕ
added config past line fault = fault >> Ok (next_rounds config past line)
