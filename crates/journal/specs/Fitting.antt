-- Which turns and losses fit a configuration, said without reading lines one after the other.
use Rattle.std.specs.Prelude.{◌≡◌, ◌≤◌, List, ◌∷◌, ◌++◌, length, map, true}
use Rattle.std.specs.List.{AllByRecursion}
use Rattle.history_spec.specs.{KeepUpFrom}
use Rattle.ids_config.specs.Parts.{Parts}
use Rattle.ids_types.specs.{Turn}
use Rattle.text_spec.specs.{is_in_ranges, IsHeld, Follows, Told, Line, lines_told, turn_told}

-- each line can be held, and its numbers and its event are in their ranges; of any two lines the later one follows the
-- earlier; and a turn has at most 1,024 entries
pub record IsInOrder (config : Parts) (told : Told) : Type 0 where
  pub held : AllByRecursion IsHeld (lines_told told)
  pub ranges : AllByRecursion (λ line. is_in_ranges config line ≡ true) (lines_told told)
  pub order : (before middle behind : List Line) (first last : Line)
      → lines_told told ≡ before ++ first ∷ (middle ++ last ∷ behind) → Follows first last
  pub few : AllByRecursion (λ turn. length turn.entries ≤ 1024) told.turns

-- each line of the turn can be held, and its numbers and its event are in their ranges; and it has at most 1,024 entries
pub record IsTurnInRange (config : Parts) (turn : Turn) : Type 0 where
  pub held : AllByRecursion IsHeld (turn_told turn)
  pub ranges : AllByRecursion (λ line. is_in_ranges config line ≡ true) (turn_told turn)
  pub few : length turn.entries ≤ 1024

-- each turn is in range, and ticks never fall
pub record AreInRange (config : Parts) (turns : List Turn) : Type 0 where
  pub each : AllByRecursion (IsTurnInRange config) turns
  pub ticks : KeepUpFrom 0 (map (λ turn. turn.head.tick) turns)
