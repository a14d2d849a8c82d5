-- What contracts see of a caller: which one it is, and what it did so far.
use Rattle.std.specs.Prelude.{◌≡◌, ℕ, ◌+◌, ◌<◌, ◌^◌, Bool, false, Some, None, List, [], ◌∷◌, ◌++◌, length, slice_index_or, sum_by}
use mathlib.Core.Option.{some}
use lib.ListN.{get_elem?}
use Rattle.ids_types.specs.declared.entry.Act.{Act}
use Rattle.ids_types.specs.declared.entry.Act.TheVariants.{Report}
use Rattle.ids_types.specs.declared.entry.Carried.{Carried}
use Rattle.ids_types.specs.declared.entry.Carried.TheVariants.{Absent, Kept, Missing}
use Rattle.history_spec.specs.Follows.{Calls}
use Rattle.report_queue.specs.Parts.{queue_seats}
use Rattle.report_api.specs.{Given, PassMemo, calls_in, lost_events, missing_in, pass_memo, is_sensor}
use Rattle.law_closing.specs.Calls.{accepted_in}
use Rattle.main_function.specs.declared.rest.Totals.{Totals}
use Rattle.idsm_api.specs.declared.answer.Answer.{Answer}
use Rattle.idsm_api.specs.declared.answer.Answer.TheVariants.{Done, LostEvent, Spent, UnknownEvent, WithoutContext, ZeroCount}
use Rattle.idsm_api.specs.declared.caller.Caller.{Caller}
use Rattle.idsm_api.specs.declared.manager.Manager.{Manager}
use Rattle.idsm_api.specs.Roles.{IsFitCaller, caller_shares, manager_shares}

-- which caller it is, from 0
abbrev pub number_of : Caller → ℕ
number_of caller = (pass_memo caller.pass).number

-- whether it may report event k: one that a sensor reports
abbrev pub may_report : Caller → ℕ → Bool
may_report caller k = is_sensor (caller_shares caller).terms k

-- what a caller did so far
pub record CallLog : Type 0 where
  -- its calls in their order: what each put into the history, or nothing where it was lost
  pub calls : Calls
  -- how many of them stand in the history
  pub accepted : ℕ
  -- how many reports were lost
  pub lost : ℕ
  -- how many reports stand in the history without their context
  pub missing : ℕ

-- the log of a pass
abbrev pub log_in : PassMemo → CallLog
log_in pass = record {
  calls = calls_in pass.log;
  accepted = accepted_in pass;
  lost = lost_events pass;
  missing = missing_in pass.log;
}

-- the log of a caller
abbrev pub log_of : Caller → CallLog
log_of caller = log_in (pass_memo caller.pass)

-- nothing was called
abbrev pub no_calls : CallLog
no_calls = record { calls = []; accepted = 0; lost = 0; missing = 0 }

-- a report more that was accepted whole
abbrev pub with_whole : Act (List ℕ) → CallLog → CallLog
with_whole act log = record log { calls = log.calls ++ Some act ∷ []; accepted = log.accepted + 1 }

-- one that was accepted without its context
abbrev pub with_missing : Act (List ℕ) → CallLog → CallLog
with_missing act log = record log { calls = log.calls ++ Some act ∷ []; accepted = log.accepted + 1; missing = log.missing + 1 }

-- one that was lost
abbrev pub with_lost : CallLog → CallLog
with_lost log = record log { calls = log.calls ++ None ∷ []; lost = log.lost + 1 }

-- it is the same caller of the same manager
pub record IsSameCaller (old new : Caller) : Type 0 where
  pub shares : caller_shares new ≡ caller_shares old
  pub number : number_of new ≡ number_of old

-- these are one by one the same callers, each between two calls
pub record AreSameCallers (olds news : List Caller) : Type 0 where
  pub as_many : length news ≡ length olds
  pub each : (i : ℕ) (d : Caller) → i < length news
      → IsFitCaller (slice_index_or news i d) × IsSameCaller (slice_index_or olds i d) (slice_index_or news i d)

-- the context is all of these bytes, and there is none where these are none
abbrev pub HasAll : List ℕ → Carried (List ℕ) → Type 0
HasAll bytes Absent = bytes ≡ []
HasAll bytes (Kept class claim kept) = (0 < length bytes) × (kept ≡ bytes)
HasAll bytes (Missing numbers) = ⊥

-- the report that was given, with this context
abbrev pub report_of : Given → Carried (List ℕ) → Act (List ℕ)
report_of given context = Report given.event given.count given.stamp context

-- the log after a report, by its answer, and why it was refused
abbrev pub ReportLogs : Given → Caller → Answer → CallLog → Type 0
ReportLogs given old Done new = (context : Carried (List ℕ)) × HasAll given.bytes context × (new ≡ with_whole (report_of given context) (log_of old))
ReportLogs given old WithoutContext new =
    (numbers : List ℕ) × (0 < length given.bytes) × (new ≡ with_missing (report_of given (Missing numbers)) (log_of old))
ReportLogs given old LostEvent new = new ≡ with_lost (log_of old)
ReportLogs given old UnknownEvent new = (may_report old given.event.0 ≡ false) × (new ≡ log_of old)
ReportLogs given old ZeroCount new = (given.count ≡ 0) × (new ≡ log_of old)
ReportLogs given old Spent new = (length (log_of old).calls ≡ 2 ^ 40) × (new ≡ log_of old)
ReportLogs given old other new = ⊥

-- what a report did
pub record ReportDoes (given : Given) (old : Caller) (answer : Answer) (new : Caller) : Type 0 where
  pub same : IsSameCaller old new
  pub logs : ReportLogs given old answer (log_of new)

-- these are all callers of the manager: caller 0 first, each between two calls
pub record AreAllCallers (manager : Manager) (callers : List Caller) : Type 0 where
  pub all : length callers ≡ queue_seats (manager_shares manager).queue
  pub each : (i : ℕ) (caller : Caller) → get_elem? callers i ≡ some caller
      → IsFitCaller caller × (caller_shares caller ≡ manager_shares manager) × (number_of caller ≡ i)

-- the totals count what these callers did
pub record AreCounted (callers : List Caller) (totals : Totals) : Type 0 where
  pub entries_are : totals.entries ≡ sum_by (λ caller. (log_of caller).accepted) callers
  pub lost_events_are : totals.lost_events ≡ sum_by (λ caller. (log_of caller).lost) callers
  pub lost_contexts_are : totals.lost_contexts ≡ sum_by (λ caller. (log_of caller).missing) callers
