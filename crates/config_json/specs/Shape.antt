-- The search for faults of shape, in the order of the walk. The first fault found is the answer.
-- Source: the configuration format of this project (docs/CONFIGURATION.md).
use Rattle.std.specs.Prelude.{ℕ, List, [], ◌∷◌, Bool, true, not, ◌||◌, Option, option_map, unwrap_or, is_some, bytes_eq, codes, Result, Ok, ⊤, string_bytes, String}
use Rattle.std.specs.List.{list_any, list_all}
use Rattle.serde_json.specs.Data.{Data, Members, no_members, member}
use Rattle.serde_json.specs.Find.{get, as_object}
use Rattle.ids_types.specs.ModeNames.{mode_named}
use Rattle.ids_config.specs.declared.fault.ConfigFault.{ConfigFault}
use Rattle.ids_config.specs.declared.fault.ConfigPlace.TheVariants as places
use Rattle.ids_config.specs.Steps.{◌>>◌, asks, at, each, capped}
use Rattle.config_json.specs.declared.tables.Form.{Form}
use Rattle.config_json.specs.Members.{has_kind, text_at, list_at, object_at, form_at, form_of, last_named}
use Rattle.config_json.specs.Tables.{Row, top_table, class_table, window_table, event_table, aggregate_table, internal_table}
use Rattle.std.specs.declared.alloc.Global.{Global}
use Rattle.config_json.specs.declared.tables.MemberRow.{MemberRow}

-- ---- one object

-- the names of members
abbrev pub names_of : Members → List (List ℕ)
names_of no_members = []
names_of (member name tree members) = name ∷ names_of members

-- the table has a row of this name
abbrev pub is_named : List Row → List ℕ → Bool
is_named rows name = list_any (λ row. bytes_eq name row.name) rows

-- each member of the object has a row
abbrev pub are_named : List Row → Data → Bool
are_named rows tree = unwrap_or
    (option_map (λ members. list_all (is_named rows) (names_of members)) (as_object tree)) true

-- the object has the row's member, where it has to
abbrev pub is_there : Data → Row → Bool
is_there tree row = not row.required || is_some (get row.name tree)

-- the row's member is of its kind, where it is there
abbrev pub is_of_kind : Data → Row → Bool
is_of_kind tree row = unwrap_or (option_map (has_kind row.kind) (get row.name tree)) true

-- an object with the members of the table
abbrev pub object_shape : List Row → Data → Result ⊤ ℕ
object_shape rows tree =
    asks 2 (is_some (as_object tree))
    >> asks 3 (are_named rows tree)
    >> asks 4 (list_all (is_there tree) rows)
    >> asks 5 (list_all (is_of_kind tree) rows)

-- the object of this name, where there is one
abbrev pub part_shape : (Data → Result ⊤ ℕ) → List ℕ → Data → Result ⊤ ℕ
part_shape shape name tree = unwrap_or (option_map shape (object_at name tree)) (Ok tt)

-- the text of this name is one that names something, where it is there
abbrev pub is_known : {A : Type 0} → (List ℕ → Option A) → List ℕ → Data → Bool
is_known named name tree =
    unwrap_or (option_map (λ text. is_some (named text)) (text_at name tree)) true

-- ---- all objects

-- the class of this index
abbrev pub class_shape : ℕ → Data → Result ⊤ ConfigFault
class_shape index tree = at (places.Class (capped index)) (object_shape class_table tree)

-- an aggregation
abbrev pub aggregate_shape : Data → Result ⊤ ℕ
aggregate_shape tree =
    object_shape aggregate_table tree >> asks 8 (is_known last_named (codes "context") tree)

-- an event of a file of this form
unfoldable pub event_shape : Form → Data → Result ⊤ ℕ
event_shape form tree =
    object_shape (event_table form) tree
    >> asks 7 (is_known mode_named (codes "mode") tree)
    >> part_shape aggregate_shape (codes "aggregate") tree
    >> part_shape (object_shape (window_table (codes "count"))) (codes "threshold") tree

-- the event of this index, of a file of this form
abbrev pub event_shape_at : Form → ℕ → Data → Result ⊤ ConfigFault
event_shape_at form index tree = at (places.Event (capped index)) (event_shape form tree)

-- the whole configuration
unfoldable pub config_shape : Data → Result ⊤ ConfigFault
config_shape tree =
    at places.Top (object_shape (top_table (form_of tree)) tree)
    >> at places.Top (asks 6 (is_some (form_at tree)))
    >> each class_shape 0 (list_at (codes "classes") tree)
    >> at places.Top (part_shape (object_shape (window_table (codes "events"))) (codes "rate") tree)
    >> at places.Top (part_shape (object_shape (window_table (codes "bytes"))) (codes "traffic") tree)
    >> each (event_shape_at (form_of tree)) 0 (list_at (codes "events") tree)
    >> at places.Top (part_shape (object_shape internal_table) (codes "internal") tree)

-- ---- the search of one object in the words of its reader, for private clauses

-- the row as data
abbrev pub row_of : MemberRow → Row
row_of row = record { name = row.name.now; kind = row.kind; required = row.required }

-- a row has the key as its name
abbrev pub is_among : List MemberRow → String Global → Bool
is_among rows key = list_any (λ row. bytes_eq (string_bytes key) row.name.now) rows

-- the steps of the search of an object with these keys
abbrev pub members_shape : List MemberRow → Data → List (String Global) → Result ⊤ ℕ
members_shape rows tree keys =
    asks 3 (list_all (is_among rows) keys)
    >> asks 4 (list_all (λ row. is_there tree (row_of row)) rows)
    >> asks 5 (list_all (λ row. is_of_kind tree (row_of row)) rows)
