-- The text of a configuration: compact JSON in the second form, with every member written, in the byte order of their names.
-- Source: the configuration format of this project (docs/CONFIGURATION.md).
use Rattle.std.specs.Prelude.{ℕ, List, [], ◌∷◌, ◌++◌, map, Bool, Option, Some, None, codes, if◌then◌else◌}
use Rattle.serde_json.specs.Data.{unsigned, Data, Members, null, boolean, number, string, array, object, no_members, put}
use Rattle.serde_json.specs.View.{items_of}
use Rattle.serde_json.specs.Written.{compact_text}
use Rattle.ids_types.specs.declared.class_spec.ClassSpec.{ClassSpec}
use Rattle.ids_types.specs.ModeNames.{mode_name}
use Rattle.ids_config.specs.declared.parts.Aggregate.{Aggregate}
use Rattle.ids_config.specs.declared.parts.Window.{Window}
use Rattle.ids_config.specs.Parts.{Event, Parts}

-- a whole number
abbrev pub whole : ℕ → Data
whole n = number (unsigned n)

-- what is absent is null
abbrev pub optional : {A : Type 0} → (A → Data) → Option A → Data
optional tree None = null
optional tree (Some x) = tree x

-- a list of such trees
abbrev pub list_tree : {A : Type 0} → (A → Data) → List A → Data
list_tree tree xs = array (items_of (map tree xs))

-- the name of the context that an aggregation keeps
abbrev pub context_name : Bool → List ℕ
context_name last = if last then codes "LAST" else codes "FIRST"

-- these members in the byte order of their names, among others
abbrev pub with_members : List (List ℕ × Data) → Members → Members
with_members [] members = members
with_members (first ∷ others) members = with_members others (put first.0 first.1 members)

-- an object with these members
abbrev pub object_of : List (List ℕ × Data) → Data
object_of members = object (with_members members no_members)

-- a class
abbrev pub class_tree : ClassSpec → Data
class_tree class = object_of ((codes "size", whole class.size) ∷ (codes "number", whole class.number) ∷ [])

-- a window, whose number has this name
abbrev pub window_tree : List ℕ → Window → Data
window_tree name window = object_of ((codes "interval", whole window.interval) ∷ (name, whole window.number) ∷ [])

-- an aggregation
abbrev pub aggregate_tree : Aggregate → Data
aggregate_tree aggregate = object_of (
    (codes "interval", whole aggregate.interval)
    ∷ (codes "context", string (context_name aggregate.last))
    ∷ []
    )

-- what an event is and where it goes
abbrev pub event_members : Event → List (List ℕ × Data)
event_members event =
    (codes "id", whole event.id)
    ∷ (codes "sensor", whole event.sensor)
    ∷ (codes "version", whole event.version)
    ∷ (codes "mode", string (mode_name event.mode))
    ∷ (codes "send", boolean event.send)
    ∷ (codes "store", boolean event.store)
    ∷ []

-- what filters an event
abbrev pub filter_members : Event → List (List ℕ × Data)
filter_members event =
    (codes "block", list_tree whole event.block)
    ∷ (codes "nth", whole event.nth)
    ∷ (codes "aggregate", optional aggregate_tree event.aggregate)
    ∷ (codes "threshold", optional (window_tree (codes "count")) event.threshold)
    ∷ []

-- an event
unfoldable pub event_tree : Event → Data
event_tree event = object_of (event_members event ++ filter_members event)

-- the internal events
abbrev pub internal_tree : Parts → Data
internal_tree config = object_of (
    (codes "lost_events", optional whole config.lost_events)
    ∷ (codes "lost_contexts", optional whole config.lost_contexts)
    ∷ (codes "limited", optional whole config.limited)
    ∷ []
    )

-- the numbers at the top
abbrev pub number_members : Parts → List (List ℕ × Data)
number_members config =
    (codes "form", whole 2)
    ∷ (codes "profile", whole config.profile)
    ∷ (codes "instance", whole config.instance)
    ∷ (codes "callers", whole config.callers)
    ∷ (codes "ring", whole config.ring)
    ∷ (codes "memory", whole config.memory)
    ∷ (codes "state", whole config.state)
    ∷ []

-- the lists and objects at the top
abbrev pub inner_members : Parts → List (List ℕ × Data)
inner_members config =
    (codes "classes", list_tree class_tree config.classes)
    ∷ (codes "rate", optional (window_tree (codes "events")) config.rate)
    ∷ (codes "traffic", optional (window_tree (codes "bytes")) config.traffic)
    ∷ (codes "events", list_tree event_tree config.events)
    ∷ (codes "internal", internal_tree config)
    ∷ []

-- the whole configuration
unfoldable pub config_tree : Parts → Data
config_tree config = object_of (number_members config ++ inner_members config)

-- the text of a configuration
abbrev pub config_text : Parts → List ℕ
config_text config = compact_text (config_tree config)
