-- The internal events that a turn begins with: the manager's own reports of what was lost and held back.
-- Public standard: AUTOSAR SWS Intrusion Detection System Manager, for lost events and lost contexts. The
-- third, and how the counts are told, are this project's own.
use Rattle.std.specs.Prelude.{ℕ, ◌==◌, min, List, [], ◌∷◌, ◌++◌, Option, Some, None, if◌then◌else◌}
use Rattle.ids_types.specs.declared.entry.TurnHead.{TurnHead}
use Rattle.ids_types.specs.declared.internal.Internal.{Internal}
use Rattle.ids_types.specs.declared.names.EventIndex.{EventIndex}

-- an internal event with its count
pub record Head : Type 0 where
  pub event : EventIndex
  pub count : ℕ

-- the internal event that tells a number, if it is configured and the number is above 0
abbrev pub head_for : Option EventIndex → ℕ → List Head
head_for None number = []
head_for (Some event) number = if number == 0 then [] else record { event = event; count = min number 65535 } ∷ []

-- the internal events of a turn: for lost events, then for lost contexts, then for what the limits held back
abbrev pub heads_of : Internal → TurnHead → List Head
heads_of internal head =
    head_for internal.lost_events head.lost_events
    ++ head_for internal.lost_contexts head.lost_contexts
    ++ head_for internal.limited head.limited
