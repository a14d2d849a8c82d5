-- The journal: the text of a history and its losses, a line for each turn, each entry and each loss.
-- Source: the text formats of this project (docs/FORMATS.md).
use Rattle.std.specs.Prelude.{◌∷◌, ◌++◌}
use Rattle.text_spec.specs.Below.{ℕ, List, [], map, codes, flat_map, Turn}
pub use Rattle.text_spec.specs.Below.{Absent, Act, Carried, Entry, Kept, Loss, Missing, Report, SetMode, State, TurnHead}
use Rattle.text_spec.specs.Contexts.{a_context}
use Rattle.text_spec.specs.Fields.{Filled, the, a_number, a_stamp, a_mode, put, line_with}
use Rattle.text_spec.specs.Words.{text_of}

-- what a journal tells: the turns, and the calls that found no event buffer
pub record Told : Type 0 where
  pub turns : List Turn
  pub losses : List Loss

-- what a line tells: that a turn begins, an entry of that turn, or a loss
pub data Line : Type 0 where
  begins : TurnHead → Line
  enters : Entry (List ℕ) → Line
  loses : Loss → Line

-- ---- the fields of a line

-- `R CALLER CALL EVENT COUNT STAMP CONTEXT`, `C CALLER CALL S STATE` or `C CALLER CALL M EVENT MODE`
abbrev pub act_fields : ℕ → ℕ → Act (List ℕ) → List Filled
act_fields caller call (Report event count stamp context) =
    put (the (codes "R")) tt ∷ put a_number caller ∷ put a_number call ∷ put a_number event.0 ∷ put a_number count ∷ put a_stamp stamp ∷ put a_context context ∷ []
act_fields caller call (State state) = put (the (codes "C")) tt ∷ put a_number caller ∷ put a_number call ∷ put (the (codes "S")) tt ∷ put a_number state ∷ []
act_fields caller call (SetMode event mode) =
    put (the (codes "C")) tt ∷ put a_number caller ∷ put a_number call ∷ put (the (codes "M")) tt ∷ put a_number event.0 ∷ put a_mode mode ∷ []

-- the fields of the line that tells this; `T TICK LOST_EVENTS LOST_CONTEXTS LIMITED`, and `L CALLER CALL GIVEN`
abbrev pub fields_of : Line → List Filled
fields_of (begins head) =
    put (the (codes "T")) tt ∷ put a_number head.tick ∷ put a_number head.lost_events ∷ put a_number head.lost_contexts
    ∷ put a_number head.limited ∷ []
fields_of (enters entry) = act_fields entry.caller entry.call entry.act
fields_of (loses loss) = put (the (codes "L")) tt ∷ put a_number loss.caller ∷ put a_number loss.call ∷ put a_number loss.given ∷ []

-- the line that tells this, without its line feed
abbrev pub line_for : Line → List ℕ
line_for line = line_with (fields_of line)

-- ---- the lines of a journal

-- a turn: it begins, then its entries
abbrev pub turn_told : Turn → List Line
turn_told turn = begins turn.head ∷ map enters turn.entries

-- what the lines tell, one after another: the turns, then the losses
abbrev pub lines_told : Told → List Line
lines_told told = flat_map turn_told told.turns ++ map loses told.losses

-- the journal of these turns and losses
abbrev pub journal_text : Told → List ℕ
journal_text told = text_of (map line_for (lines_told told))
