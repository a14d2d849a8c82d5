-- Which rounds a text is the trace of, and where it has a fault: the first bad line and its first fault.
-- Source: the text formats of this project (docs/FORMATS.md).
use Rattle.std.specs.Prelude.{◌≡◌, ◌≤◌, ◌^◌}
use Rattle.text_spec.specs.Below.{ℕ, not, true, List, length, Result, Ok, AllByRecursion, flat_map, Parts, asks, KeepUpFrom, round_ticks, Asked, Round}
use Rattle.text_spec.specs.Fields.{AreHeld}
use Rattle.text_spec.specs.Lines.{Grammar, BadLine, past_in, ◌>>=◌}
use Rattle.text_spec.specs.TraceFaults.{PastRounds, no_rounds, is_allowed, trace_fault_of, next_rounds}
use Rattle.text_spec.specs.TraceForm.{trace_told_by}
use Rattle.text_spec.specs.TraceText.{TraceLine, trace_fields, calls}

-- ---- the reading of a text

-- how a trace is read: at its end no round may be open
abbrev pub trace_grammar : Parts → Grammar PastRounds TraceLine
trace_grammar config = record {
  told_by = trace_told_by;
  fault_of = trace_fault_of config;
  next = next_rounds config;
  end_fault = λ past. asks 2 (not past.is_open);
}

-- the rounds that the text tells, or its first bad line
abbrev pub trace_in : Parts → List ℕ → Result (List Round) BadLine
trace_in config text = past_in (trace_grammar config) no_rounds text >>= λ past. Ok past.rounds

-- ---- which rounds there are

-- what a caller asks for can be held, as a timestamp of 64 bits, and the configuration allows it
abbrev pub MayAsk : Parts → Asked → Type 0
MayAsk config asked = AreHeld (trace_fields (calls 0 asked)) × (is_allowed config asked ≡ true)

-- the round has a list of lines for each caller, and the configuration allows each
pub record IsAllowedRound (config : Parts) (round : Round) : Type 0 where
  pub callers : length round.lines ≡ config.callers
  pub asked : AllByRecursion (AllByRecursion (MayAsk config)) round.lines

-- the ticks of rounds are small, and none is below the one before it
pub record AreTicks (rounds : List Round) : Type 0 where
  pub small : AllByRecursion (λ tick. tick ≤ 2 ^ 62) (flat_map round_ticks rounds)
  pub keep_up : KeepUpFrom 0 (flat_map round_ticks rounds)

-- the rounds fit the configuration: it allows each of them, and their ticks never fall
pub record AreRounds (config : Parts) (rounds : List Round) : Type 0 where
  pub allowed : AllByRecursion (IsAllowedRound config) rounds
  pub ticks : AreTicks rounds
