-- The trace: the text of what a replay is asked to do, round by round, a line for each that a caller asks for.
-- Source: the text formats of this project (docs/FORMATS.md).
use Rattle.std.specs.Prelude.{◌∷◌, ◌++◌}
use Rattle.text_spec.specs.Below.{ℕ, suc, List, [], map, codes, flat_map}
pub use Rattle.text_spec.specs.Below.{Asked, Round, changes, reports, sets}
use Rattle.text_spec.specs.Fields.{Filled, the, a_number, a_stamp, a_mode, any_bytes, put, line_with}
use Rattle.text_spec.specs.Words.{text_of}

-- what a line tells: that a round begins, with the ticks of the turns beside its calls; what a caller asks for;
-- or that the round ends, with the tick of the turn after its calls
pub data TraceLine : Type 0 where
  opens : List ℕ → TraceLine
  calls : ℕ → Asked → TraceLine
  closes : ℕ → TraceLine

-- ---- the fields of a line

-- a field for each number
abbrev pub number_fields : List ℕ → List Filled
number_fields [] = []
number_fields (n ∷ ns) = put a_number n ∷ number_fields ns

-- `R CALLER EVENT COUNT STAMP CONTEXT`, `S CALLER STATE` or `M CALLER EVENT MODE`
abbrev pub asked_fields : ℕ → Asked → List Filled
asked_fields caller (reports event count stamp bytes) =
    put (the (codes "R")) tt ∷ put a_number caller ∷ put a_number event.0 ∷ put a_number count ∷ put a_stamp stamp ∷ put any_bytes bytes ∷ []
asked_fields caller (changes state) = put (the (codes "S")) tt ∷ put a_number caller ∷ put a_number state ∷ []
asked_fields caller (sets event mode) = put (the (codes "M")) tt ∷ put a_number caller ∷ put a_number event.0 ∷ put a_mode mode ∷ []

-- the fields of the line that tells this; `N` and a tick for each turn beside the calls, and `E TICK`
abbrev pub trace_fields : TraceLine → List Filled
trace_fields (opens ticks) = put (the (codes "N")) tt ∷ number_fields ticks
trace_fields (calls caller asked) = asked_fields caller asked
trace_fields (closes tick) = put (the (codes "E")) tt ∷ put a_number tick ∷ []

-- the line that tells this, without its line feed
abbrev pub trace_line_for : TraceLine → List ℕ
trace_line_for line = line_with (trace_fields line)

-- ---- the lines of a trace

-- what callers ask for, from this caller on: all that the first of them asks for, then the next one
abbrev pub callers_told : ℕ → List (List Asked) → List TraceLine
callers_told caller [] = []
callers_told caller (lines ∷ more) = map (calls caller) lines ++ callers_told (suc caller) more

-- a round: it begins, then its lines by caller, then it ends
abbrev pub round_told : Round → List TraceLine
round_told round = opens round.beside ∷ callers_told 0 round.lines ++ closes round.after ∷ []

-- what the lines tell, one after another
abbrev pub rounds_told : List Round → List TraceLine
rounds_told rounds = flat_map round_told rounds

-- the trace of these rounds
abbrev pub trace_text : List Round → List ℕ
trace_text rounds = text_of (map trace_line_for (rounds_told rounds))
