-- What holds of a configuration without a fault of value.
-- Source: the configuration format of this project (docs/CONFIGURATION.md).
use Rattle.std.specs.Prelude.{◌≡◌, ◌≤◌, ◌<◌, ℕ, ◌^◌, List, [], ◌∷◌, true, Option, IfSome, length, ⊤}
use Rattle.std.specs.List.{AllByRecursion}
use Rattle.ids_types.specs.declared.class_spec.ClassSpec.{ClassSpec}
use Rattle.ids_config.specs.declared.parts.Window.{Window}
use Rattle.ids_config.specs.Parts.{Event, Parts}
use Rattle.ids_config.specs.Values.{rises, is_within, differ}

-- the number is in the range
pub record IsWithin (low high n : ℕ) : Type 0 where
  pub least : low ≤ n
  pub most : n ≤ high

-- an interval is in range
abbrev pub IsInterval : ℕ → Type 0
IsInterval interval = IsWithin 1 (2 ^ 62) interval

-- a window is in range, its number between these
pub record IsWindow (least most : ℕ) (window : Window) : Type 0 where
  pub interval : IsInterval window.interval
  pub number : IsWithin least most window.number

-- a limit is in range, where there is one
abbrev pub IsLimit : Option Window → Type 0
IsLimit limit = IfSome limit (IsWindow 0 4294967295)

-- each class is in range, and the sizes rise strictly from above this one on
abbrev pub AreClasses : ℕ → List ClassSpec → Type 0
AreClasses above [] = ⊤
AreClasses above (class ∷ classes) =
    (above < class.size) × IsWithin 1 1024 class.size × IsWithin 1 1024 class.number
    × AreClasses class.size classes

-- the event is in range under this profile
pub record IsEvent (profile : ℕ) (event : Event) : Type 0 where
  pub id : event.id ≤ 65535
  pub sensor : event.sensor ≤ 63
  pub version : event.version ≤ 255
  pub no_version : profile ≡ 1 → event.version ≡ 0
  pub few_states : length event.block ≤ 16
  pub states : rises 0 event.block ≡ true
  pub nth : IsWithin 1 65535 event.nth
  pub aggregate : IfSome event.aggregate (λ a. IsInterval a.interval)
  pub threshold : IfSome event.threshold (IsWindow 1 65535)

-- the internal events are events, and differ
pub record AreInternal (config : Parts) : Type 0 where
  pub lost_events : is_within (length config.events) config.lost_events ≡ true
  pub lost_contexts : is_within (length config.events) config.lost_contexts ≡ true
  pub limited : is_within (length config.events) config.limited ≡ true
  pub first_two : differ config.lost_events config.lost_contexts ≡ true
  pub outer_two : differ config.lost_events config.limited ≡ true
  pub last_two : differ config.lost_contexts config.limited ≡ true

-- the configuration is in range
pub record IsValid (config : Parts) : Type 0 where
  pub profile : IsWithin 1 2 config.profile
  pub instance : config.instance ≤ 1023
  pub callers : IsWithin 1 32 config.callers
  pub ring : IsWithin 1 1024 config.ring
  pub memory : config.memory ≤ 256
  pub state : config.state ≤ 255
  pub few_classes : length config.classes ≤ 4
  pub classes : AreClasses 0 config.classes
  pub rate : IsLimit config.rate
  pub traffic : IsLimit config.traffic
  pub count : IsWithin 1 256 (length config.events)
  pub events : AllByRecursion (IsEvent config.profile) config.events
  pub internal : AreInternal config
