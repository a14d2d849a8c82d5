-- What a run keeps small, so that a journal has numbers for it.
-- Source: the text formats of this project (docs/FORMATS.md).
use Rattle.std.specs.Prelude.{ℕ, ◌≤◌, ◌^◌, List, length}
use Rattle.std.specs.List.{AllByRecursion}
use Rattle.ids_types.specs.Turns.{Turn, entries_of}
use Rattle.ids_types.specs.declared.entry.TurnHead.{TurnHead}
use Rattle.history_spec.specs.Rounds.{Round, lines_of}

-- not too much was lost or held back since the turn before
pub record IsSmallHead (head : TurnHead) : Type 0 where
  pub lost_events : head.lost_events ≤ 2 ^ 45
  pub lost_contexts : head.lost_contexts ≤ 2 ^ 45
  pub limited : head.limited ≤ 2 ^ 45

-- each caller has few lines, and the turns have few entries and small heads
pub record AreSmall (rounds : List Round) (turns : List Turn) : Type 0 where
  pub few_lines : (caller : ℕ) → length (lines_of caller rounds) ≤ 2 ^ 40
  pub few_entries : length (entries_of turns) ≤ 2 ^ 45
  pub heads : AllByRecursion (λ turn. IsSmallHead turn.head) turns
