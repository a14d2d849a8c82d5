-- The way of each item of a history: it ends at the first step that holds it, or in a message. Lists have the newest
-- first.
-- Public standard: AUTOSAR SWS Intrusion Detection System Manager, filter chain. That each item has the one step that
-- ended its way is this project's own.
use Rattle.std.specs.Prelude.{ℕ, ◌==◌, ◌&&◌, ◌++◌, nat_le, nat_lt, Bool, List, [], ◌∷◌, map, filter, Option, Some, None, option_map, option_to_list, if◌then◌else◌}
use Rattle.ids_types.specs.declared.mode.Mode.{Mode}
use Rattle.ids_config.specs.Parts.{Parts, event_at}
use Rattle.chain_spec.specs.Fates.{Fate, AtMode, InWindow, AtThreshold, AtSend, place_of, steps_from, first_that}
use Rattle.chain_spec.specs.Gate.{mode_at, item_in, is_bypassing}
use Rattle.chain_spec.specs.Items.{Item, is_of}
use Rattle.chain_spec.specs.Moments.{Moment, comes, closes}
use Rattle.chain_spec.specs.OpenWindows.{closing_item, closing_ticks}
use Rattle.chain_spec.specs.Steps.{Seen, holds}

-- an item, the step at which its way began, and its fate
pub record Ending : Type 0 where
  pub item : Item
  pub first : Fate
  pub fate : Fate

-- its way began at a step
abbrev pub begun_at : Fate → Ending → Bool
begun_at step one = place_of one.first == place_of step

-- it ended at a step
abbrev pub ends_at : Fate → Ending → Bool
ends_at step one = place_of one.fate == place_of step

-- it came to a step
abbrev pub reaches : Fate → Ending → Bool
reaches step one = nat_le (place_of one.first) (place_of step) && nat_le (place_of step) (place_of one.fate)

-- it came to a step, and was let pass there
abbrev pub passes : Fate → Ending → Bool
passes step one = nat_le (place_of one.first) (place_of step) && nat_lt (place_of step) (place_of one.fate)

-- a window gave it: its way began after the windows
abbrev pub by_window : Ending → Bool
by_window one = begun_at AtThreshold one

-- the items of the endings that pass a test
abbrev pub items_where : (Ending → Bool) → List Ending → List Item
items_where test past = map (λ one. one.item) (filter test past)

-- what a step knows after these moments and their endings
abbrev pub seen_at : List Moment → List Ending → Fate → Seen
seen_at before past step =
    record { moments = before; reached = items_where (reaches step) past; passed = items_where (passes step) past }

-- the fate of an item after them: the first step, from this one on, that holds it
abbrev pub fate_from : Parts → List Moment → List Ending → Fate → Item → Fate
fate_from config before past first item = first_that (λ step. holds config step (seen_at before past step) item) (steps_from first)

-- the ending of an item whose way begins at a step
abbrev pub ended : Parts → List Moment → List Ending → Fate → Item → Ending
ended config before past first item = record { item = item; first = first; fate = fate_from config before past first item }

-- where the way of an item begins that comes: what bypasses the filters begins at the sending
abbrev pub first_under : Mode → Fate
first_under mode = if is_bypassing mode then AtSend else AtMode

-- what an event's window gives that a turn at this tick closes
abbrev pub given : Parts → List Moment → List Ending → ℕ → ℕ → Option Item
given config before past tick event = closing_item (event_at config event).aggregate tick (closing_ticks event before)
    (filter (is_of event) (items_where (reaches InWindow) past))

-- the ending at a moment: of the item that comes, or of what a window gives that closes
abbrev pub ending_after : Parts → List Moment → List Ending → Moment → Option Ending
ending_after config before past (comes item) =
    let mode = mode_at config item.event before in Some (ended config before past (first_under mode) (item_in mode item))
ending_after config before past (closes tick event) =
    option_map (ended config before past AtThreshold) (given config before past tick event)
ending_after config before past _ = None

-- the endings of moments
abbrev pub endings : Parts → List Moment → List Ending
endings config [] = []
endings config (moment ∷ before) =
    let past = endings config before in option_to_list (ending_after config before past moment) ++ past

-- the ending at a moment after these moments
abbrev pub ending_at : Parts → List Moment → Moment → Option Ending
ending_at config before moment = ending_after config before (endings config before) moment
