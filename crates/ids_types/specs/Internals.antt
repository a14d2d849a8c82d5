-- Which events sensors report.
use Rattle.std.specs.Prelude.{ℕ, ◌==◌, ◌&&◌, not, nat_lt, Bool, false, Option, Some, None}
use Rattle.ids_types.specs.declared.internal.Internal.{Internal}
use Rattle.ids_types.specs.declared.names.EventIndex.{EventIndex}

-- the event is given, and has this index
abbrev pub is_that : Option EventIndex → ℕ → Bool
is_that None index = false
is_that (Some event) index = event.0 == index

-- an event of this index is one of so many, and none of the internal ones
abbrev pub is_reported : Internal → ℕ → ℕ → Bool
is_reported internal events index =
    nat_lt index events
    && not (is_that internal.lost_events index)
    && not (is_that internal.lost_contexts index)
    && not (is_that internal.limited index)
