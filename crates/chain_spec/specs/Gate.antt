-- Reporting mode and block state after moments, and what a mode leaves of an item.
-- Public standard: AUTOSAR SWS Intrusion Detection System Manager, filter chain.
use Rattle.std.specs.Prelude.{ℕ, ◌==◌, Bool, true, false, List, filter_map, Option, Some, None, if◌then◌else◌}
use Rattle.std.specs.List.{list_any}
use Rattle.ids_types.specs.declared.mode.Mode.{Mode}
use Rattle.ids_types.specs.declared.mode.Mode.TheVariants.{Brief, Detailed, BriefBypassing, DetailedBypassing}
use Rattle.ids_config.specs.Parts.{Parts, event_at}
use Rattle.chain_spec.specs.Items.{Item}
use Rattle.chain_spec.specs.Moments.{Moment, state_is, mode_is}
use Rattle.chain_spec.specs.Stages.{where_true, newest_else}

-- ---- reporting mode and state

-- the mode goes through the filters
abbrev pub is_filtered : Mode → Bool
is_filtered Brief = true
is_filtered Detailed = true
is_filtered _ = false

-- the mode bypasses the filters
abbrev pub is_bypassing : Mode → Bool
is_bypassing BriefBypassing = true
is_bypassing DetailedBypassing = true
is_bypassing _ = false

-- the mode keeps context data
abbrev pub is_detailed : Mode → Bool
is_detailed Detailed = true
is_detailed DetailedBypassing = true
is_detailed _ = false

-- the mode that a moment gives an event
abbrev pub mode_set : ℕ → Moment → Option Mode
mode_set event (mode_is other mode) = where_true (other == event) mode
mode_set event _ = None

-- the mode of an event after these moments: the one that was set last, or else the configured one
abbrev pub mode_at : Parts → ℕ → List Moment → Mode
mode_at config event before = newest_else (event_at config event).mode (filter_map (mode_set event) before)

-- the state that a moment changes to
abbrev pub state_set : Moment → Option ℕ
state_set (state_is state) = Some state
state_set _ = None

-- the state after these moments: the one that was changed to last, or else the configured one
abbrev pub state_at : Parts → List Moment → ℕ
state_at config before = newest_else config.state (filter_map state_set before)

-- the state is one of those that block the event
abbrev pub is_blocked : Parts → ℕ → List Moment → Bool
is_blocked config event before = list_any (λ state. state == state_at config before) (event_at config event).block

-- ---- items

-- the item, without its context data if the mode is a brief one
abbrev pub item_in : Mode → Item → Item
item_in mode item = record {
  event = item.event;
  tick = item.tick;
  count = item.count;
  stamp = item.stamp;
  context = if is_detailed mode then item.context else None;
}
