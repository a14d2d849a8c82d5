-- Weights: how many bytes a security event can add to messages.
-- After the event message of the AUTOSAR PRS Intrusion Detection System; its layout is that of ids_frame.
use Rattle.std.specs.Prelude.{ℕ, ◌+◌, List, length, Option, Some, None}
use Rattle.ids_types.specs.declared.event.Qualified.{Qualified}
use Rattle.ids_types.specs.declared.names.Stamp.{Stamp}
use Rattle.chain_spec.specs.{Item, told_of, Moment, closes, comes, state_is, mode_is}

-- a timestamp weighs its eight bytes
abbrev pub stamp_weight : Option Stamp → ℕ
stamp_weight None = 0
stamp_weight (Some stamp) = 8

-- context data weigh their bytes, and four for their length
abbrev pub context_weight : Option (List ℕ) → ℕ
context_weight None = 0
context_weight (Some bytes) = 4 + length bytes

-- what is told of an event weighs eight bytes for the event, and its timestamp and its context data
abbrev pub told_weight : Qualified (List ℕ) → ℕ
told_weight told = 8 + stamp_weight told.stamp + context_weight told.context

-- the weight of an item
abbrev pub weight : Item → ℕ
weight item = told_weight (told_of item)

-- the weight of what comes at a moment
abbrev pub moment_weight : Moment → ℕ
moment_weight (closes tick event) = 0
moment_weight (comes item) = weight item
moment_weight (state_is state) = 0
moment_weight (mode_is event mode) = 0
