-- A pass: what its calls were, what became of them, and what they asked of the classes of context data buffers.
use Rattle.std.specs.Prelude.{◌≡◌, ℕ, ◌+◌, ◌≤◌, Option, Some, None, is_some, true, List, [], ◌∷◌, length, map}
use Rattle.ids_types.specs.{act_by, Fate}
use Rattle.ids_types.specs.declared.entry.Act.{Act as ActOver}
use Rattle.history_spec.specs.Follows.{Calls, Follows}
use Rattle.buffer_classes.specs.{class_sizes, IsClaimSeatOf, IsHeldClaimant, claimant_of, claims_of, log_of}
use Rattle.buffer_classes.specs.Seats as classes
use Rattle.buffer_classes.specs.Names.{SeatMemo as ClassMemo}
use Rattle.permit_ring.specs.Logs.{fate_of}
use Rattle.report_queue.specs.Parts.{IsCallerOf, IsHeldCaller, caller_memo, caller_number, queue_terms, ticket_of}
use Rattle.report_api.specs.Names.{Act, Report, Missing, Outcome, PassMemo, Lost, Got}
use Rattle.report_api.specs.Terms.{term_sizes}
use Rattle.report_api.specs.declared.pass.Pass.{Pass}
use Rattle.report_api.specs.declared.shared.Shared.{Shared}

-- the sizes of the classes, in order
abbrev pub sizes_of : Shared → List ℕ
sizes_of shared = class_sizes shared.classes

-- the queue and the classes are those of the same terms
pub record IsShared (shared : Shared) : Type 0 where
  pub terms_are : queue_terms shared.queue ≡ shared.terms
  pub sizes_are : sizes_of shared ≡ term_sizes shared.terms

-- what a pass knows of the report ring
abbrev pub pass_memo : Pass → PassMemo
pass_memo pass = caller_memo pass.seat

-- the losses that it marked: events of reports that found no event buffer, and contexts of reports that kept none
abbrev pub lost_events : PassMemo → ℕ
lost_events pass = pass.view.marks0

abbrev pub lost_contexts : PassMemo → ℕ
lost_contexts pass = pass.view.marks1

-- how many steps it made, at the report ring and at those of the classes
abbrev pub steps_of : Pass → ℕ
steps_of pass = length (pass_memo pass).moves + classes.steps_of pass.claimant

-- the act without its buffer, of which the bytes stay
abbrev pub plain_act : Act → ActOver (List ℕ)
plain_act act = act_by (λ buf. buf.bytes) act

-- a call as plain data: the act that was accepted, or nothing
abbrev pub call_of : Outcome → Option (ActOver (List ℕ))
call_of (Lost claimed) = None
call_of (Got ticket item) = Some (plain_act item.payload)

-- all calls of a log
abbrev pub calls_in : List Outcome → Calls
calls_in log = map call_of log

-- what a pass asked of class i
abbrev pub asks_of : Pass → ℕ → List Fate
asks_of pass i = map fate_of (log_of pass.claimant i)

-- the act misses its context
abbrev pub misses_context : Act → ℕ
misses_context (Report event count stamp (Missing numbers)) = 1
misses_context other = 0

-- the calls of a log that miss their context
abbrev pub missing_in : List Outcome → ℕ
missing_in [] = 0
missing_in (Lost claimed ∷ log) = missing_in log
missing_in (Got ticket item ∷ log) = misses_context item.payload + missing_in log

-- the pass is one of this making, also while it holds a ticket
pub record IsPassAt (shared : Shared) (pass : Pass) : Type 0 where
  pub is_shared : IsShared shared
  pub caller : IsCallerOf shared.queue pass.seat
  pub claimant : IsClaimSeatOf shared.classes pass.claimant
  pub has_spare : is_some pass.spare ≡ true
  pub number_is : claimant_of pass.claimant ≡ caller_number pass.seat
  -- call by call, what was asked of each class is what the calls show
  pub asks : (i : ℕ) → Follows (sizes_of shared) i (calls_in (pass_memo pass).log) (asks_of pass i)
  pub claims_within : claims_of pass.claimant ≤ length (pass_memo pass).log
  pub events_within : lost_events (pass_memo pass) ≤ length (pass_memo pass).log
  -- each context that is missing was marked
  pub contexts_are : lost_contexts (pass_memo pass) ≡ missing_in (pass_memo pass).log

-- the pass is one of this making, between two calls
pub record IsPassOf (shared : Shared) (pass : Pass) : Type 0 where
  pub at : IsPassAt shared pass
  pub is_idle : ticket_of pass.seat ≡ None

-- the pass is held, and the memos are what is known of it at the report ring and at each class
pub record IsHeldPass (shared : Shared) (memo : PassMemo) (memos : ℕ → ClassMemo) (pass : Pass) : Type 0 where
  pub is_shared : IsShared shared
  pub caller : IsHeldCaller memo pass.seat
  pub claimant : IsHeldClaimant shared.classes memos pass.claimant
  pub has_spare : is_some pass.spare ≡ true
  pub number_is : claimant_of pass.claimant ≡ memo.number
  pub asks : (i : ℕ) → Follows (sizes_of shared) i (calls_in memo.log) (map fate_of (memos i).log)
  pub none_past : (i : ℕ) → length (sizes_of shared) ≤ i → (memos i).log ≡ []
  pub claims_within : claims_of pass.claimant ≤ length memo.log
  pub events_within : lost_events memo ≤ length memo.log
  pub contexts_are : lost_contexts memo ≡ missing_in memo.log
