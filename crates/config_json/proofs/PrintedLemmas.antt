-- A printed configuration is read back: it has no fault of shape and its own parts, nests little, and has no number with a fraction.
pub use Rattle.std.proofs.Common.{◌≡◌, ◌≤◌, ℕ, suc, List, [], ◌∷◌, map, Bool, true, false, ◌||◌, Option, Some, None, option_map, unwrap_or, is_some, Ok, refl, arith, bytes_eq, string_bytes, sym, ◌++◌, drop}
pub use Rattle.std.proofs.lemmas.Str.{IsUtf8-from_is_utf8, is_utf8-from_IsUtf8, IsUtf8-string_bytes}
pub use Rattle.std.specs.List.{list_all, list_any}
pub use Rattle.std.specs.Prelude.{codes, Result, ⊤}
pub use Rattle.ids_config.specs.Parts.{Event, Parts, plain_event, class_of}
pub use Rattle.ids_config.specs.Steps.{each}
pub use Rattle.serde_json.specs.Data.{Data, depth, items_depth}
pub use Rattle.serde_json.specs.Find.{as_object}
pub use Rattle.serde_json.specs.Read.{max_depth}
pub use Rattle.serde_json.specs.View.{items_of, view, items_view, members_view}
pub use Rattle.config_json.specs.Members.{whole_in, elements, is_null, is_whole}
pub use Rattle.config_json.specs.{if_object, last_named, window_in, aggregate_in, class_in, state_in, event_in, whole, optional, context_name, class_tree, window_tree, aggregate_tree, config_text, event_tree, object_shape, class_shape, aggregate_shape, event_shape_at, names_of, is_named, parts_in, config_tree, event_shape, config_shape, window_table}
use Rattle.serde_json.specs.Written.{has_float, items_have_float}
use Rattle.ids_types.specs.declared.mode.Mode.{Mode}
use Rattle.ids_types.specs.declared.mode.Mode.TheVariants as modes
use Rattle.ids_types.specs.ModeNames.{mode_name, mode_named}
use Rattle.ids_config.specs.declared.fault.ConfigFault.{ConfigFault}
use Rattle.ids_config.specs.declared.parts.Aggregate.{Aggregate}
use Rattle.ids_config.specs.declared.parts.Window.{Window}
use Rattle.config_json.specs.declared.tables.Form.TheVariants as forms
use Rattle.std.specs.Map.{keys_of}
use Rattle.std.proofs.lemmas.List.Folds.{list_all-map}
use Rattle.std.proofs.lemmas.Simd.{map-map}
use Rattle.serde_json.proofs.Views.{Entry}
use Rattle.serde_json.specs.declared.value.Value.{Value}
use Rattle.config_json.specs.declared.tables.MemberRow.{MemberRow}
use Rattle.config_json.specs.Shape.{row_of, is_among, members_shape}

-- which bytes are text
pub ruleset utf8 = (IsUtf8-from_is_utf8, is_utf8-from_IsUtf8, IsUtf8-string_bytes)

-- ---- names

-- a mode
mode_back : (mode : Mode) → mode_named (mode_name mode) ≡ Some mode
mode_back modes.Off = refl
mode_back mode = refl

-- the choice of a context
context_back : (last : Bool) → last_named (context_name last) ≡ Some last
context_back true = refl
context_back false = refl

-- ---- what may be absent

-- the printed tree of what may be absent: it is found again and of its kind, has no fault of this shape, nests no deeper, and has no fraction
record IsPrinted {A : Type 0} (found : Data → Option A) (is_kind : Data → Bool) (shape : Data → Result ⊤ ℕ) (most : ℕ) (o : Option A) (tree : Data) : Type 0 where
  back : found tree ≡ o
  kind : is_kind tree ≡ true
  fits : unwrap_or (option_map shape (if_object tree)) (Ok tt) ≡ Ok tt
  flat : depth tree ≤ most
  plain : has_float tree ≡ false

-- that of an object
abbrev IsPart : {A : Type 0} → (Data → A) → (Data → Result ⊤ ℕ) → Option A → Data → Type 0
IsPart part shape = IsPrinted (λ tree. option_map part (if_object tree)) (λ tree. is_null tree || is_some (as_object tree)) shape 1

-- a window, whose number has this name
abbrev IsWindow : List ℕ → Option Window → Type 0
IsWindow name window =
    IsPart (window_in name) (object_shape (window_table name)) window (optional (window_tree name) window)

window_printed : (name : List ℕ) → ((window : Window) → IsWindow name (Some window)) → (window : Option Window) → IsWindow name window
window_printed name each None = record { back = refl; kind = refl; fits = refl; flat = grind arith; plain = refl }
window_printed name each (Some window) = each window

-- an aggregation
aggregate_printed : (aggregate : Option Aggregate) → IsPart aggregate_in aggregate_shape aggregate (optional aggregate_tree aggregate)
aggregate_printed None = record { back = refl; kind = refl; fits = refl; flat = grind arith; plain = refl }
aggregate_printed (Some a) = grind (arith, context_back a.last)

-- an index
index_printed : (index : Option ℕ) → IsPrinted whole_in (λ tree. is_null tree || is_whole tree) (λ tree. Ok tt) 0 index (optional whole index)
index_printed None = record { back = refl; kind = refl; fits = refl; flat = grind arith; plain = refl }
index_printed (Some index) = record { back = refl; kind = refl; fits = refl; flat = grind arith; plain = refl }

-- ---- lists

-- the trees of a list of trees
pub elements_back : (trees : List Data) → elements (items_of trees) ≡ trees
elements_back [] = refl
elements_back (tree ∷ trees) = rw (elements_back trees) refl

-- the printed tree of an element
pub record IsElement {A : Type 0} (part : Data → A) (shape : ℕ → Data → Result ⊤ ConfigFault) (most : ℕ) (x : A) (tree : Data) : Type 0 where
  pub back : part tree ≡ x
  pub fits : (index : ℕ) → shape index tree ≡ Ok tt
  pub flat : depth tree ≤ most
  pub plain : has_float tree ≡ false

-- those of a list, from an index on
record AreElements {A : Type 0} (part : Data → A) (shape : ℕ → Data → Result ⊤ ConfigFault) (most index : ℕ) (xs : List A) (trees : List Data) : Type 0 where
  back : map part (elements (items_of trees)) ≡ xs
  fits : each shape index (elements (items_of trees)) ≡ Ok tt
  flat : items_depth (items_of trees) ≤ most
  plain : items_have_float (items_of trees) ≡ false

list_printed : {A : Type 0} (part : Data → A) (shape : ℕ → Data → Result ⊤ ConfigFault) (most : ℕ) (make : A → Data)
    → ((x : A) → IsElement part shape most x (make x)) → (index : ℕ) (xs : List A) → AreElements part shape most index xs (map make xs)
list_printed part shape most make one index [] = record { back = refl; fits = refl; flat = grind arith; plain = refl }
list_printed part shape most make one index (x ∷ xs) =
    let first = one x in
    let rest = list_printed part shape most make one (suc index) xs in
    grind (arith, first, first.fits index, rest)

-- states are whole numbers
states_fit : (states : List ℕ) → list_all is_whole (elements (items_of (map whole states))) ≡ true
states_fit [] = refl
states_fit (state ∷ states) = states_fit states

-- ---- the parts

-- an event
event_printed : (event : Event) → IsElement event_in (event_shape_at forms.Second) 2 event (event_tree event)
unfolding event_in event_shape event_tree
event_printed event =
    let block = list_printed state_in (λ index tree. Ok tt) 0 whole (λ state. grind arith) 0 event.block in
    let aggregate = aggregate_printed event.aggregate in
    let threshold = window_printed (codes "count") (λ w. grind arith) event.threshold in
    grind (arith, block, aggregate, threshold, mode_back event.mode, states_fit event.block)

-- a whole configuration
pub config_printed : (config : Parts) → (has_float (config_tree config) ≡ false) × (depth (config_tree config) ≤ max_depth) × (config_shape (config_tree config) ≡ Ok tt) × (parts_in (config_tree config) ≡ config)
unfolding parts_in config_shape config_tree
config_printed config =
    let classes = list_printed class_in class_shape 1 class_tree (λ class. grind arith) 0 config.classes in
    let rate = window_printed (codes "events") (λ w. grind arith) config.rate in
    let traffic = window_printed (codes "bytes") (λ w. grind arith) config.traffic in
    let events = list_printed event_in (event_shape_at forms.Second) 2 event_tree event_printed 0 config.events in
    let lost_events = index_printed config.lost_events in
    let lost_contexts = index_printed config.lost_contexts in
    let limited = index_printed config.limited in
    grind (arith, classes, rate, traffic, events, lost_events, lost_contexts, limited)

-- ---- the members of an object as its reader meets them: keys, and rows of a constant

-- all trees of a list are whole numbers
pub all_elements : (values : List Value)
    → list_all is_whole (elements (items_view values)) ≡ list_all (λ v. is_whole (view v)) values
all_elements values = rw (elements_back (map view values)) (list_all-map is_whole view values)

-- the states of a list
pub states_of : (values : List Value)
    → map (λ value. state_in (view value)) values ≡ map state_in (map view values)
states_of values = sym (map-map state_in view values)

-- a name among the rows
any_row : (key : List ℕ) (rows : List MemberRow)
    → is_named (map row_of rows) key ≡ list_any (λ row. bytes_eq key row.name.now) rows
any_row key [] = refl
any_row key (row ∷ rows) = rw (any_row key rows) refl

-- the names of members are the keys of the map
named_members : (rows : List MemberRow) (entries : List Entry)
    → list_all (is_named (map row_of rows)) (names_of (members_view entries))
    ≡ list_all (is_among rows) (keys_of entries)
named_members rows [] = refl
named_members rows (entry ∷ entries) =
    rw (any_row (string_bytes entry.0) rows, named_members rows entries) refl

-- the search of an object that has these members
pub object_members : (rows : List MemberRow) (tree : Data) (entries : List Entry)
    → Some (members_view entries) ≡ as_object tree
    → object_shape (map row_of rows) tree ≡ members_shape rows tree (keys_of entries)
object_members rows tree entries e =
    simp (sym e, named_members rows entries, list_all-map)
