-- What a replay is asked to do: each caller's lines, round by round, beside turns.
use Rattle.std.specs.Prelude.{ℕ, Bool, true, false, Option, List, [], ◌∷◌, ◌++◌, slice_index_or}
use Rattle.std.specs.List.{flat_map}
use mathlib.Core.Option.{Option as Maybe, some}
use lib.ListN.{get_elem?}
use Rattle.history_spec.specs.Names.{Loss, Mode, EventIndex, Stamp}

-- a line of a caller: a report, with no bytes where it has no context, a change of the state, or a setting of a mode
pub data Asked : Type 0 where
  reports : EventIndex → ℕ → Option Stamp → List ℕ → Asked
  changes : ℕ → Asked
  sets : EventIndex → Mode → Asked

-- a round: the ticks of the turns beside the calls, the lines of each caller, and the tick of the turn after them
pub record Round : Type 0 where
  pub beside : List ℕ
  pub lines : List (List Asked)
  pub after : ℕ

-- the lines of a caller in a round
abbrev pub lines_at : ℕ → Round → List Asked
lines_at caller round = slice_index_or round.lines caller []

-- the lines of a caller in all rounds; line j is call j
abbrev pub lines_of : ℕ → List Round → List Asked
lines_of caller rounds = flat_map (lines_at caller) rounds

-- the ticks of a round's turns
abbrev pub round_ticks : Round → List ℕ
round_ticks round = round.beside ++ round.after ∷ []

-- the tick of the last round's last turn, 0 where there is none
abbrev pub last_tick : List Round → ℕ
last_tick [] = 0
last_tick (round ∷ []) = round.after
last_tick (round ∷ next ∷ rounds) = last_tick (next ∷ rounds)

-- the ticks of all turns: those of the rounds, and of the close at the last one's tick
abbrev pub ticks_of : List Round → List ℕ
ticks_of rounds = flat_map round_ticks rounds ++ last_tick rounds ∷ []

-- the line, if there is one, is a report
abbrev pub is_report : Maybe Asked → Bool
is_report (some (reports event count stamp bytes)) = true
is_report other = false

-- the lost call's line is a report
abbrev pub is_lost_report : List Round → Loss → Bool
is_lost_report rounds loss = is_report (get_elem? (lines_of loss.caller rounds) loss.call)
