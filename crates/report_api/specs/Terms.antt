-- Which events are reported, and which acts are admitted.
use Rattle.std.specs.Prelude.{◌≡◌, ℕ, ◌≤◌, ◌<◌, ◌^◌, Bool, true, false, not, nat_lt, ◌&&◌, ◌==◌, Option, Some, None, List, length, take, All, ⊤}
use mathlib.Core.Option.{some}
use lib.ListN.{get_elem?}
use Rattle.ids_types.specs.Internals.{is_reported}
use Rattle.report_api.specs.Names.{Carried, Absent, Kept, Missing, Act, Report, State, SetMode, EventIndex}
use Rattle.buffer_classes.specs.Buffers.{Buffer}
use Rattle.report_queue.specs.declared.cargo.Item.{Item}
use Rattle.report_api.specs.declared.terms.ReportTerms.{ReportTerms}

-- the sizes of the classes, in order
abbrev pub term_sizes : ReportTerms → List ℕ
term_sizes terms = take terms.classes terms.sizes

-- the event is configured
abbrev pub has_event : ReportTerms → ℕ → Bool
has_event terms k = nat_lt k terms.events

-- the event is configured, and none of the internal ones
abbrev pub is_sensor : ReportTerms → ℕ → Bool
is_sensor terms k = is_reported terms.internal terms.events k

-- a kept context is that of a buffer of one of the classes, under its own class and claim, and fits there
pub record IsKept (terms : ReportTerms) (class claim : ℕ) (buf : Buffer) : Type 0 where
  pub class_is : buf.class ≡ class
  pub claim_is : buf.claim ≡ claim
  pub size_is : get_elem? (term_sizes terms) class ≡ some buf.size
  pub few_claims : claim ≤ 2 ^ 45
  pub some_bytes : 1 ≤ length buf.bytes
  pub fits : length buf.bytes ≤ buf.size

-- a missing one has at most one number for each class
pub record AreNumbers (terms : ReportTerms) (numbers : List ℕ) : Type 0 where
  pub few : length numbers ≤ length (term_sizes terms)
  pub few_claims : All (λ claimed. claimed ≤ 2 ^ 45) numbers

-- the context is admitted
abbrev pub AdmitsContext : ReportTerms → Carried Buffer → Type 0
AdmitsContext terms Absent = ⊤
AdmitsContext terms (Kept class claim buf) = IsKept terms class claim buf
AdmitsContext terms (Missing numbers) = AreNumbers terms numbers

-- a report of so many events of a sensor
pub record IsReported (terms : ReportTerms) (event count : ℕ) : Type 0 where
  pub sensor : is_sensor terms event ≡ true
  pub some_events : 1 ≤ count
  pub few_events : count ≤ 65535

-- the act is admitted
abbrev pub AdmitsAct : ReportTerms → Act → Type 0
AdmitsAct terms (Report event count stamp context) = IsReported terms event.0 count × AdmitsContext terms context
AdmitsAct terms (State state) = state ≤ 255
AdmitsAct terms (SetMode event mode) = event.0 < terms.events

-- it is a control, which has no context
abbrev pub IsControl : Act → Type 0
IsControl (Report event count stamp context) = ⊥
IsControl other = ⊤

-- the item names a caller and a call in range, and its act is admitted
pub record AdmitsItem (terms : ReportTerms) (item : Item Act) : Type 0 where
  pub caller : item.caller < 32
  pub call : item.call < 2 ^ 40
  pub act : AdmitsAct terms item.payload
