-- For which moments a gate stands, and the ending of an item by a verdict.
use Rattle.std.specs.Prelude.{◌≡◌, ◌<◌, ℕ, ◌%◌, Bool, List, length, None, if◌then◌else◌, ⊤}
use Rattle.ids_types.specs.declared.mode.Mode.{Mode}
use Rattle.ids_config.specs.Parts.{Parts, event_at}
use Rattle.chain_spec.specs.{mode_at, state_at, item_in, Item, Moment}
use Rattle.chain_spec.specs.Fates.{place_of}
use Rattle.chain_spec.specs.Lists.{arrivals}
use Rattle.chain_spec.specs.Way.{Ending, endings, fate_from}
use Rattle.chain_spec.specs.declared.fate.Fate.{Fate}
use Rattle.chain_spec.specs.declared.fate.Fate.TheVariants.{AtMode, InWindow, AtSend}
use Rattle.filter_gate.specs.declared.verdict.Verdict.{Verdict}
use Rattle.filter_gate.specs.declared.verdict.Verdict.TheVariants.{Held, Bypass, Pass}
use Rattle.filter_gate.specs.Gate.{Row, Gate, row_at, row_with}

-- the row of event k after these moments
abbrev pub row_after : Parts → List Moment → ℕ → Row
row_after config before k =
    let event = event_at config k in
    row_with event (mode_at config k before) (length (arrivals config k before) % event.nth)

-- the gate is that of the configuration after these moments, of which the newest stands first
pub record Stands (config : Parts) (before : List Moment) (gate : Gate) : Type 0 where
  pub state : gate.state ≡ state_at config before
  pub events : length gate.rows ≡ length config.events
  pub rows : (k : ℕ) → k < length gate.rows → row_at gate k ≡ row_after config before k

-- the item, with its context data or without
abbrev pub with_context : Bool → Item → Item
with_context context item = record {
  event = item.event;
  tick = item.tick;
  count = item.count;
  stamp = item.stamp;
  context = if context then item.context else None;
}

-- what is held is held before the windows
abbrev pub IsHeldEarly : Verdict → Type 0
IsHeldEarly (Held fate) = place_of fate < place_of InWindow
IsHeldEarly _ = ⊤

-- the ending of an item by a verdict, under its event's mode and with the fates from a step on: what is held ends there,
-- what bypasses the filters goes on to the sending, and what passes to the windows
abbrev pub ending_under : Mode → (Fate → Item → Fate) → Verdict → Item → Ending
ending_under mode onward (Held fate) item = record { item = item_in mode item; first = AtMode; fate = fate }
ending_under mode onward (Bypass context) item =
    let kept = with_context context item in record { item = kept; first = AtSend; fate = onward AtSend kept }
ending_under mode onward (Pass context) item =
    let kept = with_context context item in record { item = kept; first = AtMode; fate = onward InWindow kept }

-- the ending of an item by a verdict after these moments
abbrev pub ending_by : Parts → List Moment → Verdict → Item → Ending
ending_by config before verdict item =
    ending_under (mode_at config item.event before) (fate_from config before (endings config before)) verdict item
