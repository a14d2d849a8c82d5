-- The answers of a pass's calls, each with its cause, and with the steps that the call made.
use Rattle.std.specs.Prelude.{◌≡◌, ℕ, suc, ◌+◌, ◌-◌, ◌*◌, ◌≤◌, ◌<◌, ◌^◌, true, false, List, [], ◌∷◌, length, Option, Some, Ok, Err}
use mathlib.Core.Option.{some}
use lib.ListN.{get_elem?}
use Rattle.ids_types.specs.declared.mode.Mode.{Mode}
use Rattle.ids_types.specs.declared.names.Ticket.{Ticket}
use Rattle.buffer_classes.specs.{Buffer, Asks, asked, lost_at, first_fitting, memo_at, Outcome as ClassOutcome}
use Rattle.buffer_classes.specs.Claims as classes
use Rattle.buffer_classes.specs.declared.class.Class.{Class}
use Rattle.buffer_classes.specs.declared.seat.Claim.TheVariants as claims
use Rattle.buffer_classes.specs.declared.seat.ClaimSeat.{ClaimSeat}
use Rattle.permit_ring.specs.Seats.{ring_seats}
use Rattle.report_queue.specs.{ClaimTells, adds_mark, finishes, item_by, queue_seats, ticket_of}
use Rattle.report_api.specs.Names.{Act, Report, SetMode, Carried, Absent, Kept, Missing, EventIndex, Stamp, PassMemo}
use Rattle.report_api.specs.Passes.{IsPassOf, pass_memo, sizes_of, steps_of}
use Rattle.report_api.specs.Terms.{IsReported, is_sensor}
use Rattle.report_api.specs.declared.answer.Control.{Control}
use Rattle.report_api.specs.declared.answer.Control.TheVariants as controls
use Rattle.report_api.specs.declared.answer.Report.{Report as ReportAnswer}
use Rattle.report_api.specs.declared.answer.Report.TheVariants as reports
use Rattle.report_api.specs.declared.pass.Pass.{Pass}
use Rattle.report_api.specs.declared.shared.Shared.{Shared}

-- what a report is given; no bytes are no context
pub record Given : Type 0 where
  pub event : EventIndex
  pub count : ℕ
  pub stamp : Option Stamp
  pub bytes : List ℕ

abbrev pub given : EventIndex → ℕ → Option Stamp → List ℕ → Given
given event count stamp bytes = record { event = event; count = count; stamp = stamp; bytes = bytes }

-- the act of a report with this context
abbrev pub act_with : Given → Carried Buffer → Act
act_with given context = Report given.event given.count given.stamp context

-- the context is all of these bytes, where there are any, in a buffer of a class that holds so many
abbrev pub CarriesAll : List ℕ → List ℕ → Carried Buffer → Type 0
CarriesAll sizes bytes Absent = bytes ≡ []
CarriesAll sizes bytes (Kept class claim buf) =
    (0 < length bytes) × (buf.bytes ≡ bytes) × (get_elem? sizes class ≡ some buf.size) × (length bytes ≤ buf.size)
CarriesAll sizes bytes (Missing numbers) = ⊥

-- what is given is a report of a sensor
abbrev pub IsReport : Shared → Given → Type 0
IsReport shared given = IsReported shared.terms given.event.0 given.count

-- and the pass may make a call
abbrev pub IsCall : Shared → Given → PassMemo → Type 0
IsCall shared given pass = IsReport shared given × (pass.view.calls < 2 ^ 40)

-- a pass that holds a ticket puts a report there, and then marks a context that is lost
abbrev pub PutTells : Shared → Given → PassMemo → ReportAnswer → PassMemo → Type 0
PutTells shared given old (reports.Accepted t) new =
    (context : Carried Buffer) × CarriesAll (sizes_of shared) given.bytes context
    × (new ≡ finishes (item_by old (act_with given context)) old)
PutTells shared given old (reports.WithoutContext t looks) new =
    (0 < length given.bytes)
    × (first_fitting (length given.bytes) (sizes_of shared) + length looks ≡ length (sizes_of shared))
    × ((found : ℕ) × (new ≡ adds_mark 1 found (finishes (item_by old (act_with given (Missing looks))) old)))
PutTells shared given old other new = ⊥

-- a report that was put stands under the ticket that was held
abbrev pub IsUnder : Option Ticket → ReportAnswer → Type 0
IsUnder held (reports.Accepted t) = held ≡ Some t
IsUnder held (reports.WithoutContext t looks) = held ≡ Some t
IsUnder held other = ⊥

-- a claim got this ticket, and then the report was put there
abbrev pub ClaimsAndPuts : Shared → Given → PassMemo → Ticket → ReportAnswer → PassMemo → Type 0
ClaimsAndPuts shared given old t answer new =
    (mid : PassMemo) × ClaimTells (queue_seats shared.queue) old (Ok t) mid × PutTells shared given mid answer new

-- each answer of a report with its cause: what the pass did at the report ring, step by step
abbrev pub ReportTells : Shared → Given → PassMemo → ReportAnswer → PassMemo → Type 0
ReportTells shared given old reports.UnknownEvent new = (is_sensor shared.terms given.event.0 ≡ false) × (new ≡ old)
ReportTells shared given old reports.ZeroCount new = (is_sensor shared.terms given.event.0 ≡ true) × (given.count ≡ 0) × (new ≡ old)
ReportTells shared given old reports.PassSpent new = IsReport shared given × (old.view.calls ≡ 2 ^ 40) × (new ≡ old)
ReportTells shared given old (reports.LostEvent look) new = IsCall shared given old
    × ((mid : PassMemo) × (found : ℕ) × ClaimTells (queue_seats shared.queue) old (Err look) mid × (new ≡ adds_mark 0 found mid))
ReportTells shared given old (reports.Accepted t) new =
    IsCall shared given old × ClaimsAndPuts shared given old t (reports.Accepted t) new
ReportTells shared given old (reports.WithoutContext t looks) new =
    IsCall shared given old × ClaimsAndPuts shared given old t (reports.WithoutContext t looks) new

-- each class was asked so by a claimant, at steps of its own
abbrev pub AsksEach : Shared → ClaimSeat → (ℕ → List ClassOutcome) → ClaimSeat → Type 0
AsksEach shared old what new = (i : ℕ) (class : Class) → get_elem? shared.classes.classes.items i ≡ some class
    → Asks (ring_seats class.ring) (memo_at old i) (what i) (memo_at new i)

-- a buffer was claimed for so many bytes: each smaller fitting class was asked, and had none free
abbrev pub GotBuffer : Shared → ℕ → ClaimSeat → ClaimSeat → Type 0
GotBuffer shared bytes old new =
    let first = first_fitting bytes (sizes_of shared) in
    (buf : Buffer) × (skipped : List ℕ) × classes.ClaimTells first (sizes_of shared) (claims.Got buf skipped)
    × AsksEach shared old (asked first (claims.Got buf skipped)) new

-- what a report with these bytes asked of the classes: all that fit where it is without its context, and none where it is lost or refused
abbrev pub ReportAsks : Shared → List ℕ → ClaimSeat → ReportAnswer → ClaimSeat → Type 0
ReportAsks shared bytes old (reports.Accepted t) new = (bytes ≡ [] → new ≡ old) × (0 < length bytes → GotBuffer shared (length bytes) old new)
ReportAsks shared bytes old (reports.WithoutContext t looks) new =
    AsksEach shared old (lost_at (first_fitting (length bytes) (sizes_of shared)) looks) new
ReportAsks shared bytes old refused new = new ≡ old

-- how many steps the context of a report takes at most: two at each class that holds so many bytes, and one more, which finishes its buffer or marks the loss; no bytes take none
abbrev pub context_steps : List ℕ → List ℕ → ℕ
context_steps sizes [] = 0
context_steps sizes (byte ∷ bytes) = 2 * (length sizes - first_fitting (suc (length bytes)) sizes) + 1

-- a report was put under the ticket that the pass held, and asked so of the classes
pub record PutsUnder (shared : Shared) (given : Given) (old : Pass) (answer : ReportAnswer) (new : Pass) : Type 0 where
  pub mine : IsPassOf shared new
  pub ticket : IsUnder (ticket_of old.seat) answer
  pub told : PutTells shared given (pass_memo old) answer (pass_memo new)
  pub classes : ReportAsks shared given.bytes old.claimant answer new.claimant
  -- a finish at the report ring, and those for its context
  pub few : steps_of new ≤ steps_of old + 1 + context_steps (sizes_of shared) given.bytes

-- a report was answered so
pub record Reports (shared : Shared) (given : Given) (old : Pass) (answer : ReportAnswer) (new : Pass) : Type 0 where
  pub mine : IsPassOf shared new
  pub told : ReportTells shared given (pass_memo old) answer (pass_memo new)
  pub classes : ReportAsks shared given.bytes old.claimant answer new.claimant
  -- a look, a claim and a finish at the report ring, or a mark where it is lost, and those for its context
  pub steps : steps_of new ≤ steps_of old + 3 + context_steps (sizes_of shared) given.bytes

-- each answer of a control with its cause: what the pass did at the report ring, step by step
abbrev pub ControlTells : Act → Shared → PassMemo → Control → PassMemo → Type 0
ControlTells act shared old controls.PassSpent new = (old.view.calls ≡ 2 ^ 40) × (new ≡ old)
ControlTells act shared old (controls.LostEvent look) new =
    (old.view.calls < 2 ^ 40) × ClaimTells (queue_seats shared.queue) old (Err look) new
ControlTells act shared old (controls.Accepted t) new = (old.view.calls < 2 ^ 40)
    × ((mid : PassMemo) × ClaimTells (queue_seats shared.queue) old (Ok t) mid × (new ≡ finishes (item_by mid act) mid))
ControlTells act shared old controls.UnknownEvent new = ⊥

-- and of one that sets the mode of an event
abbrev pub ModeTells : EventIndex → Mode → Shared → PassMemo → Control → PassMemo → Type 0
ModeTells event mode shared old controls.UnknownEvent new = (shared.terms.events ≤ event.0) × (new ≡ old)
ModeTells event mode shared old answer new = (event.0 < shared.terms.events) × ControlTells (SetMode event mode) shared old answer new

-- a control was answered so: it made at most a look, a claim and a finish at the report ring
pub record Controls (tells : Shared → PassMemo → Control → PassMemo → Type 0) (shared : Shared) (old : Pass) (answer : Control)
    (new : Pass) : Type 0 where
  pub mine : IsPassOf shared new
  pub told : tells shared (pass_memo old) answer (pass_memo new)
  pub claimant_is : new.claimant ≡ old.claimant
  pub steps : steps_of new ≤ steps_of old + 3
