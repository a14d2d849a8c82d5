-- The steps of an item's way: whether a step holds an item, one line a step.
-- Public standard: AUTOSAR SWS Intrusion Detection System Manager, filter chain (reporting mode, block state, forward
-- every nth, aggregation, threshold), and rate and traffic limitation after it.
use Rattle.std.specs.Prelude.{ℕ, ◌+◌, ◌%◌, ◌==◌, not, Bool, true, List, map, is_some}
use Rattle.ids_config.specs.Parts.{Parts, event_at}
use Rattle.chain_spec.specs.Counting.{counted}
use Rattle.chain_spec.specs.Fates.{Fate, AtMode, AtBlock, AtNth, InWindow, AtThreshold, AtSend, AtRate, AtTraffic, Sent}
use Rattle.chain_spec.specs.Gate.{mode_at, is_filtered, is_blocked}
use Rattle.chain_spec.specs.Items.{Item, number_of}
use Rattle.chain_spec.specs.Limits.{passes_rate, passes_traffic}
use Rattle.chain_spec.specs.Messages.{weighed}
use Rattle.chain_spec.specs.Moments.{Moment}
use Rattle.chain_spec.specs.Threshold.{verdict}

-- what a step knows: the moments before, the items that reached it before, and those of them that it let pass
pub record Seen : Type 0 where
  pub moments : List Moment
  pub reached : List Item
  pub passed : List Item

-- the next of its event's items is an nth one, if so many reached the step before it
abbrev pub is_nth : ℕ → ℕ → Bool
is_nth nth before = (before + 1) % nth == 0

-- the step holds the item
abbrev pub holds : Parts → Fate → Seen → Item → Bool
holds config AtMode seen item = not (is_filtered (mode_at config item.event seen.moments))
holds config AtBlock seen item = is_blocked config item.event seen.moments
holds config AtNth seen item = not (is_nth (event_at config item.event).nth (number_of item.event seen.reached))
holds config InWindow seen item = is_some (event_at config item.event).aggregate
holds config AtThreshold seen item =
    not (verdict (event_at config item.event).threshold (counted item) (map counted seen.reached))
holds config AtSend seen item = not (event_at config item.event).send
holds config AtRate seen item =
    not (passes_rate config.rate (map (weighed config) seen.reached) (weighed config item))
holds config AtTraffic seen item =
    not (passes_traffic config.traffic (map (weighed config) seen.passed) (weighed config item))
holds config Sent seen item = true
