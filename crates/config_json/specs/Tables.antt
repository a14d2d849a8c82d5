-- The members of each object, in the order in which they are walked.
-- Source: the configuration format of this project (docs/CONFIGURATION.md).
use Rattle.std.specs.Prelude.{ℕ, ◌==◌, List, [], ◌∷◌, Bool, true, false, Option, Some, None, codes, if◌then◌else◌}
use Rattle.config_json.specs.declared.kind.Kind.{Kind}
use Rattle.config_json.specs.declared.kind.Kind.TheVariants as kinds
use Rattle.config_json.specs.declared.tables.Form.{Form}
use Rattle.config_json.specs.declared.tables.Form.TheVariants as forms

-- the form of this number
abbrev pub form_numbered : ℕ → Option Form
form_numbered number =
    if number == 1 then Some forms.First else if number == 2 then Some forms.Second else None

-- a member that an object may have
pub record Row : Type 0 where
  pub name : List ℕ
  pub kind : Kind
  pub required : Bool

-- a member that has to be there
abbrev pub must : List ℕ → Kind → Row
must name kind = record { name = name; kind = kind; required = true }

-- a member that may be left out
abbrev pub may : List ℕ → Kind → Row
may name kind = record { name = name; kind = kind; required = false }

-- these rows, after one that only the second form has
abbrev pub since_second : Form → Row → List Row → List Row
since_second forms.First row rows = rows
since_second forms.Second row rows = row ∷ rows

-- the whole configuration
abbrev pub top_table : Form → List Row
top_table form =
    must (codes "form") kinds.Whole
    ∷ since_second form (may (codes "profile") kinds.Whole) (
    must (codes "instance") kinds.Whole
    ∷ may (codes "callers") kinds.Whole
    ∷ may (codes "ring") kinds.Whole
    ∷ may (codes "memory") kinds.Whole
    ∷ may (codes "state") kinds.Whole
    ∷ may (codes "classes") kinds.List
    ∷ may (codes "rate") kinds.ObjectOrNull
    ∷ may (codes "traffic") kinds.ObjectOrNull
    ∷ must (codes "events") kinds.List
    ∷ may (codes "internal") kinds.Object
    ∷ []
    )

-- a class
abbrev pub class_table : List Row
class_table = must (codes "size") kinds.Whole ∷ must (codes "number") kinds.Whole ∷ []

-- a window, whose number has this name
abbrev pub window_table : List ℕ → List Row
window_table name = must (codes "interval") kinds.Whole ∷ must name kinds.Whole ∷ []

-- an event
abbrev pub event_table : Form → List Row
event_table form =
    must (codes "id") kinds.Whole
    ∷ must (codes "sensor") kinds.Whole
    ∷ since_second form (may (codes "version") kinds.Whole) (
    may (codes "mode") kinds.Text
    ∷ may (codes "send") kinds.Truth
    ∷ may (codes "store") kinds.Truth
    ∷ may (codes "block") kinds.Wholes
    ∷ may (codes "nth") kinds.Whole
    ∷ may (codes "aggregate") kinds.ObjectOrNull
    ∷ may (codes "threshold") kinds.ObjectOrNull
    ∷ []
    )

-- an aggregation
abbrev pub aggregate_table : List Row
aggregate_table = must (codes "interval") kinds.Whole ∷ must (codes "context") kinds.Text ∷ []

-- the internal events
abbrev pub internal_table : List Row
internal_table =
    may (codes "lost_events") kinds.WholeOrNull
    ∷ may (codes "lost_contexts") kinds.WholeOrNull
    ∷ may (codes "limited") kinds.WholeOrNull
    ∷ []
