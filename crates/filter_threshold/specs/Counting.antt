-- The slots after a list of items, the newest first.
-- Public standard: AUTOSAR SWS Intrusion Detection System Manager, threshold filter.
use Rattle.std.specs.Prelude.{◌≡◌, ◌≤◌, ℕ, min, List, [], ◌∷◌, Option, Some, None, length, ⊤}
use Rattle.ids_config.specs.Parts.{Parts, event_at}
use Rattle.ids_config.specs.declared.parts.Window.{Window as Setting}
use Rattle.chain_spec.specs.{Occurrence, among, Window, windows_of, sum_of}
use Rattle.filter_threshold.specs.declared.threshold.Counted.{Counted}
use Rattle.filter_threshold.specs.declared.threshold.Threshold.{Threshold}
use Rattle.filter_threshold.specs.Slots.{slot_at}

-- the newest of some windows, with the sum of its counts
abbrev pub newest_counted : List (Window Occurrence) → Option Counted
newest_counted [] = None
newest_counted (w ∷ older) = Some (record { since = w.opener.tick; sum = min (sum_of (λ one. one.count) w) 65535 })

-- a threshold after these items of its event; a sum that stops at 65,535 serves, since no number is above it
pub record Counts (setting : Setting) (items : List Occurrence) (threshold : Threshold) : Type 0 where
  pub setting_is : threshold.setting ≡ setting
  pub number : setting.number ≤ 65535
  pub window : threshold.window ≡ newest_counted (windows_of (λ one. one.tick) setting.interval items)

-- a slot has a threshold exactly where its event has one
abbrev pub CountsAny : Option Setting → List Occurrence → Option Threshold → Type 0
CountsAny None items None = ⊤
CountsAny None items (Some threshold) = ⊥
CountsAny (Some setting) items None = ⊥
CountsAny (Some setting) items (Some threshold) = Counts setting items threshold

-- the slots after these items: one for each event, with the items of that event
pub record Stands (config : Parts) (items : List Occurrence) (slots : List (Option Threshold)) : Type 0 where
  pub events : length slots ≡ length config.events
  pub each : (k : ℕ) → CountsAny (event_at config k).threshold (among k items) (slot_at slots k)
