-- Which recorded turns a chain can take.
use Rattle.std.specs.Prelude.{ℕ, ◌≤◌, List, [], ◌∷◌, ⊤}
use Rattle.std.specs.List.{AllByRecursion}
use Rattle.ids_types.specs.declared.entry.Entry.{Entry}
use Rattle.ids_types.specs.declared.entry.TurnHead.{TurnHead}
use Rattle.ids_types.specs.Turns.{Turn}
use Rattle.filter_chain.specs.{newest_tick, FitsTurn}

-- the turn of this head and these entries
abbrev pub turn_with : TurnHead → List (Entry (List ℕ)) → Turn
turn_with head entries = record { head = head; entries = entries }

-- the turn has at most 1,024 entries, each of these events and with short context data
abbrev pub CanTake : ℕ → Turn → Type 0
CanTake events turn = FitsTurn (λ bytes. bytes) events turn.entries

-- ticks do not fall, and none is below this one
abbrev pub RiseFrom : ℕ → List Turn → Type 0
RiseFrom tick [] = ⊤
RiseFrom tick (turn ∷ turns) = (tick ≤ turn.head.tick) × RiseFrom turn.head.tick turns

-- no tick is below that of the turn before, the newest turn first
abbrev pub AreInOrder : List Turn → Type 0
AreInOrder [] = ⊤
AreInOrder (turn ∷ before) = (newest_tick before ≤ turn.head.tick) × AreInOrder before

-- a chain of so many events can take these turns, the first of them first
pub record CanFold (events : ℕ) (turns : List Turn) : Type 0 where
  pub turns_fit : AllByRecursion (CanTake events) turns
  pub ticks : RiseFrom 0 turns
