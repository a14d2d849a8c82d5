-- The parts that a tree has: each member's value, or its default where it is absent.
-- Source: the configuration format of this project (docs/CONFIGURATION.md).
use Rattle.std.specs.Prelude.{ℕ, List, map, Bool, true, false, Option, Some, None, option_map, option_and_then, unwrap_or, is_some, bytes_eq, codes, if◌then◌else◌, [], ◌∷◌, ◌||◌}
use Rattle.serde_json.specs.Data.{Data, no_items, Items, item}
use Rattle.serde_json.specs.Find.{get, as_bool, as_str, as_array, as_object, as_null, as_number, as_u64}
use Rattle.ids_types.specs.declared.class_spec.ClassSpec.{ClassSpec}
use Rattle.ids_types.specs.declared.mode.Mode.TheVariants as modes
use Rattle.ids_types.specs.ModeNames.{mode_named}
use Rattle.ids_config.specs.declared.parts.Aggregate.{Aggregate}
use Rattle.ids_config.specs.declared.parts.Window.{Window}
use Rattle.ids_config.specs.Parts.{Event, Parts}
use Rattle.config_json.specs.declared.tables.Form.{Form}
use Rattle.config_json.specs.declared.tables.Form.TheVariants as forms
use Rattle.config_json.specs.Tables.{form_numbered}
use Rattle.std.specs.List.{list_all}
use Rattle.config_json.specs.declared.kind.Kind.{Kind}
use Rattle.config_json.specs.declared.kind.Kind.TheVariants as kinds

-- the whole number that a tree is
abbrev pub whole_in : Data → Option ℕ
whole_in tree = option_and_then as_u64 (as_number tree)

-- the trees of a list
abbrev pub elements : Items → List Data
elements no_items = []
elements (item tree trees) = tree ∷ elements trees

-- the tree is null
abbrev pub is_null : Data → Bool
is_null tree = is_some (as_null tree)

-- the tree is a whole number
abbrev pub is_whole : Data → Bool
is_whole tree = is_some (whole_in tree)

-- the tree is a list of whole numbers
abbrev pub are_wholes : Data → Bool
are_wholes tree =
    unwrap_or (option_map (λ trees. list_all is_whole (elements trees)) (as_array tree)) false

-- the tree is of the kind
abbrev pub has_kind : Kind → Data → Bool
has_kind kinds.Whole tree = is_whole tree
has_kind kinds.WholeOrNull tree = is_null tree || is_whole tree
has_kind kinds.Truth tree = is_some (as_bool tree)
has_kind kinds.Text tree = is_some (as_str tree)
has_kind kinds.List tree = is_some (as_array tree)
has_kind kinds.Wholes tree = are_wholes tree
has_kind kinds.Object tree = is_some (as_object tree)
has_kind kinds.ObjectOrNull tree = is_null tree || is_some (as_object tree)

-- ---- the parts of a tree

-- ---- members by name

-- the whole number of this name
abbrev pub whole_at : List ℕ → Data → Option ℕ
whole_at name tree = option_and_then whole_in (get name tree)

-- the whole number of this name, or this one
abbrev pub whole_or : ℕ → List ℕ → Data → ℕ
whole_or default name tree = unwrap_or (whole_at name tree) default

-- the truth value of this name, or this one
abbrev pub truth_or : Bool → List ℕ → Data → Bool
truth_or default name tree = unwrap_or (option_and_then as_bool (get name tree)) default

-- the text of this name
abbrev pub text_at : List ℕ → Data → Option (List ℕ)
text_at name tree = option_and_then as_str (get name tree)

-- the trees of the list of this name, none where it is absent
abbrev pub list_at : List ℕ → Data → List Data
list_at name tree = elements (unwrap_or (option_and_then as_array (get name tree)) no_items)

-- the tree, where it is an object
abbrev pub if_object : Data → Option Data
if_object tree = if is_some (as_object tree) then Some tree else None

-- the object of this name, none where it is null or absent
abbrev pub object_at : List ℕ → Data → Option Data
object_at name tree = option_and_then if_object (get name tree)

-- ---- the form

-- the form that a tree says it has
abbrev pub form_at : Data → Option Form
form_at tree = option_and_then form_numbered (whole_at (codes "form") tree)

-- the form by whose tables a tree is read
abbrev pub form_of : Data → Form
form_of tree = unwrap_or (form_at tree) forms.First

-- ---- names

-- the choice of a context of this name: whether the last one is kept
abbrev pub last_named : List ℕ → Option Bool
last_named name =
    if bytes_eq name (codes "FIRST") then Some false
    else if bytes_eq name (codes "LAST") then Some true
    else None

-- ---- parts

-- the window of an object, whose number has this name
abbrev pub window_in : List ℕ → Data → Window
window_in name tree = record {
  interval = whole_or 0 (codes "interval") tree;
  number = whole_or 0 name tree;
}

-- the aggregation of an object
abbrev pub aggregate_in : Data → Aggregate
aggregate_in tree = record {
  interval = whole_or 0 (codes "interval") tree;
  last = unwrap_or (option_and_then last_named (text_at (codes "context") tree)) false;
}

-- the class of an object
abbrev pub class_in : Data → ClassSpec
class_in tree = record {
  size = whole_or 0 (codes "size") tree;
  number = whole_or 0 (codes "number") tree;
}

-- the state that a tree is
abbrev pub state_in : Data → ℕ
state_in tree = unwrap_or (whole_in tree) 0

-- the event of an object
unfoldable pub event_in : Data → Event
event_in tree = record {
  id = whole_or 0 (codes "id") tree;
  sensor = whole_or 0 (codes "sensor") tree;
  version = whole_or 0 (codes "version") tree;
  mode = unwrap_or (option_and_then mode_named (text_at (codes "mode") tree)) modes.Detailed;
  send = truth_or true (codes "send") tree;
  store = truth_or false (codes "store") tree;
  block = map state_in (list_at (codes "block") tree);
  nth = whole_or 1 (codes "nth") tree;
  aggregate = option_map aggregate_in (object_at (codes "aggregate") tree);
  threshold = option_map (window_in (codes "count")) (object_at (codes "threshold") tree);
}

-- the index that the object of internal events has by this name
abbrev pub internal_at : List ℕ → Data → Option ℕ
internal_at name tree = option_and_then (whole_at name) (object_at (codes "internal") tree)

-- the profile of a tree of this form
abbrev pub profile_in : Form → Data → ℕ
profile_in forms.First tree = 1
profile_in forms.Second tree = whole_or 2 (codes "profile") tree

-- the configuration of an object
unfoldable pub parts_in : Data → Parts
parts_in tree = record {
  profile = profile_in (form_of tree) tree;
  instance = whole_or 0 (codes "instance") tree;
  callers = whole_or 1 (codes "callers") tree;
  ring = whole_or 64 (codes "ring") tree;
  memory = whole_or 0 (codes "memory") tree;
  state = whole_or 0 (codes "state") tree;
  classes = map class_in (list_at (codes "classes") tree);
  rate = option_map (window_in (codes "events")) (object_at (codes "rate") tree);
  traffic = option_map (window_in (codes "bytes")) (object_at (codes "traffic") tree);
  events = map event_in (list_at (codes "events") tree);
  lost_events = internal_at (codes "lost_events") tree;
  lost_contexts = internal_at (codes "lost_contexts") tree;
  limited = internal_at (codes "limited") tree;
}
