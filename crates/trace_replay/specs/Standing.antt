-- What callers did between two rounds, and where they stand.
use Rattle.std.specs.Prelude.{◌≡◌, ℕ, true, ◌+◌, ◌-◌, ◌<◌, ◌≤◌, ◌^◌, Option, Some, None, List, [], ◌∷◌, ◌++◌, length, map, take, slice_index_or, vec_len, vec_capacity, ⊤}
use Rattle.std.specs.List.{AllZip, flat_map}
use Rattle.trace_replay.specs.Names.{Asked, Act, Buffer, Carried, CarriesAll, Got, IsPassOf, IsReported, Look, Loss, Lost, Missing, Outcome, Parts, Pass, PassMemo, Report, ReportTerms, Round, SetMode, Shared, State, Traced, calls_made_by, changes, fates_in, first_fitting, get_elem?, line_at, lines_at, lines_of, losses_from, lost_events, memos_of, pass_memo, queue_positions, reports, round_at, sets, sizes_in, sizes_of, some}
use Rattle.report_api.specs.declared.answer.Control.{Control}
use Rattle.report_api.specs.declared.answer.Control.TheVariants as controls
use Rattle.report_api.specs.declared.answer.Report.{Report as ReportAnswer}
use Rattle.report_api.specs.declared.answer.Report.TheVariants as answers
use Rattle.trace_replay.specs.declared.caller.Caller.{Caller}
use Rattle.trace_replay.specs.declared.place.Hand.{Hand}

-- a call that asks for this is not refused by number
abbrev pub MayBeAsked : ReportTerms → Asked → Type 0
MayBeAsked terms (reports event count stamp bytes) = IsReported terms event.0 count
MayBeAsked terms (changes state) = ⊤
MayBeAsked terms (sets event mode) = event.0 < terms.events

-- all bytes that were asked for are carried, or missed: then each class that would have held them told a number
abbrev pub CarriesAsked : List ℕ → List ℕ → Carried Buffer → Type 0
CarriesAsked sizes bytes (Missing numbers) =
    (0 < length bytes) × (first_fitting (length bytes) sizes + length numbers ≡ length sizes)
CarriesAsked sizes bytes context = CarriesAll sizes bytes context

-- the act is what was asked for
abbrev pub IsAsked : List ℕ → Asked → Act → Type 0
IsAsked sizes (reports event count stamp bytes) (Report its its_count its_stamp context) =
    (its ≡ event) × (its_count ≡ count) × (its_stamp ≡ stamp) × CarriesAsked sizes bytes context
IsAsked sizes (changes state) (State its) = its ≡ state
IsAsked sizes (sets event mode) (SetMode its its_mode) = (its ≡ event) × (its_mode ≡ mode)
IsAsked sizes asked other = ⊥

-- the call was lost, or its act is what was asked for
abbrev pub Answers : List ℕ → Asked → Outcome → Type 0
Answers sizes asked (Lost claimed) = ⊤
Answers sizes asked (Got ticket item) = IsAsked sizes asked item.payload

-- one where the call is a report that was lost
abbrev pub lost_report : Asked → Outcome → ℕ
lost_report (reports event count stamp bytes) (Lost claimed) = 1
lost_report asked outcome = 0

-- how many reports were lost
abbrev pub lost_reports : List Asked → List Outcome → ℕ
lost_reports (asked ∷ lines) (outcome ∷ log) = lost_report asked outcome + lost_reports lines log
lost_reports lines log = 0

-- the look of a report that was lost
abbrev pub report_look : ReportAnswer → Option Look
report_look (answers.LostEvent look) = Some look
report_look other = None

-- and of a control
abbrev pub control_look : Control → Option Look
control_look (controls.LostEvent look) = Some look
control_look other = None

-- a call that was lost told of its look, and no other did
abbrev pub TellsOf : Outcome → Option Look → Type 0
TellsOf (Lost claimed) (Some look) = look.claimed ≡ claimed
TellsOf (Got ticket item) None = ⊤
TellsOf outcome other = ⊥

-- the call that was asked for was made
pub record AsksOnce (sizes : List ℕ) (asked : Asked) (old : PassMemo) (look : Option Look) (new : PassMemo) : Type 0 where
  pub outcome : Outcome
  pub answers : Answers sizes asked outcome
  pub tells : TellsOf outcome look
  pub number_is : new.number ≡ old.number
  pub calls_are : new.view.calls ≡ old.view.calls + 1
  pub log_is : new.log ≡ old.log ++ outcome ∷ []
  pub lost_events_are : lost_events new ≡ lost_events old + lost_report asked outcome

-- what a caller tells: what its pass knows, and the losses that it lists
pub record Told : Type 0 where
  pub pass : PassMemo
  pub losses : List Loss

-- the loss of a call, where it was lost over a ring of so many positions
abbrev pub loss_of : ℕ → ℕ → ℕ → Outcome → List Loss
loss_of positions caller call (Lost claimed) = record { caller = caller; call = call; given = claimed - positions } ∷ []
loss_of positions caller call (Got ticket item) = []

-- the call was made, and is listed where it was lost
pub record CallsOnce (sizes : List ℕ) (positions : ℕ) (asked : Asked) (old new : Told) : Type 0 where
  pub outcome : Outcome
  pub answers : Answers sizes asked outcome
  pub number_is : new.pass.number ≡ old.pass.number
  pub calls_are : new.pass.view.calls ≡ old.pass.view.calls + 1
  pub log_is : new.pass.log ≡ old.pass.log ++ outcome ∷ []
  pub lost_events_are : lost_events new.pass ≡ lost_events old.pass + lost_report asked outcome
  pub losses_are : new.losses ≡ old.losses ++ loss_of positions old.pass.number old.pass.view.calls outcome

-- what a caller tells
abbrev pub told : Caller → Told
told caller = record { pass = pass_memo caller.pass; losses = caller.losses.items }

-- the lines of a caller in the first k rounds
abbrev pub lines_before : List Round → ℕ → ℕ → List Asked
lines_before rounds k caller = lines_of caller (take k rounds)

-- no call of the rounds' lines is refused by number
abbrev pub MayAllBeAsked : ReportTerms → List Round → Type 0
MayAllBeAsked terms rounds = (k caller i : ℕ) → k < length rounds → i < length (lines_at caller (round_at rounds k))
    → MayBeAsked terms (line_at (lines_at caller (round_at rounds k)) i)

-- the pass made the calls that these lines ask for, one by one
pub record HasPlayed (sizes : List ℕ) (lines : List Asked) (pass : PassMemo) : Type 0 where
  pub each : AllZip (Answers sizes) lines pass.log
  pub calls_are : pass.view.calls ≡ length lines
  pub lost_events_are : lost_events pass ≡ lost_reports lines pass.log

-- and this is caller i, which lists what it lost over a ring of so many positions
pub record HasListed (sizes : List ℕ) (positions i : ℕ) (lines : List Asked) (caller : Told) : Type 0 where
  pub played : HasPlayed sizes lines caller.pass
  pub number_is : caller.pass.number ≡ i
  pub losses_are : caller.losses ≡ losses_from positions i 0 (fates_in caller.pass)

-- caller i made the calls of these lines, and makes none now
pub record IsAtRest (shared : Shared) (i : ℕ) (lines : List Asked) (caller : Caller) : Type 0 where
  pub is_pass : IsPassOf shared caller.pass
  pub listed : HasListed (sizes_of shared) (queue_positions shared.queue) i lines (told caller)

-- there is room for so many losses more
abbrev pub HasRoom : ℕ → Caller → Type 0
HasRoom lines caller = vec_len caller.losses + lines ≤ vec_capacity caller.losses

-- no caller of so many makes 2^32 calls or more
abbrev pub AreFew : ℕ → List Round → Type 0
AreFew callers rounds = (caller : ℕ) → caller < callers → length (lines_of caller rounds) < 2 ^ 32

-- the passes of callers
abbrev pub passes_of : List Caller → List Pass
passes_of callers = map (λ (caller : Caller). caller.pass) callers

-- and what these know
abbrev pub views_of : List Caller → List PassMemo
views_of callers = memos_of (λ (caller : Caller). caller.pass) callers

-- how many calls each of them made
abbrev pub calls_of_each : List Caller → List ℕ
calls_of_each callers = calls_made_by (λ (caller : Caller). caller.pass) callers

-- what callers list as lost, one caller after another
abbrev pub losses_by : List Caller → List Loss
losses_by callers = flat_map (λ (caller : Caller). caller.losses.items) callers

-- each caller made the calls of the first k rounds
abbrev pub AreAtRest : Shared → List Round → ℕ → List Caller → Type 0
AreAtRest shared rounds k callers =
    (i : ℕ) (d : Caller) → i < length callers → IsAtRest shared i (lines_before rounds k i) (slice_index_or callers i d)

-- caller i of this trace played its first rounds; where it is to play the next one, it has room for what it may lose
pub record StandsAt (shared : Shared) (trace : Traced) (i : ℕ) (hand : Hand) : Type 0 where
  pub at_rest : IsAtRest shared i (lines_before trace.rounds hand.rounds i) hand.caller
  pub has_room : hand.due ≡ true → HasRoom (length (lines_at i (round_at trace.rounds hand.rounds))) hand.caller

-- each pass made the calls that the lines of its caller ask for, and each caller has one
pub record HavePlayed (config : Parts) (rounds : List Round) (passes : List PassMemo) : Type 0 where
  pub all : length passes ≡ config.callers
  pub each : (i : ℕ) (pass : PassMemo) → get_elem? passes i ≡ some pass → HasPlayed (sizes_in config) (lines_of i rounds) pass
