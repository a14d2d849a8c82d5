-- What reports and takes, just made for a configuration.
use Rattle.std.specs.Prelude.{◌≡◌, ℕ, List, Some, length, map}
use Rattle.std.specs.List.{zip}
use mathlib.Core.Option.{some}
use lib.ListN.{get_elem?}
use Rattle.ids_types.specs.declared.class_spec.ClassSpec.{ClassSpec}
use Rattle.ids_config.specs.Parts.{Parts, internal_of, is_sensor as is_reported}
use Rattle.buffer_classes.specs.declared.giver.Giver.{Giver}
use Rattle.buffer_classes.specs.declared.seat.ClaimSeat.{ClaimSeat}
use Rattle.buffer_classes.specs.{givers_of, IsNewGiver, spec_sizes}
use Rattle.report_queue.specs.declared.seat.QueueSeat.{QueueSeat}
use Rattle.report_queue.specs.{IsUntouched, new_memo, queue_positions, queue_seats}
use Rattle.report_api.specs.Desks.{IsDeskOf, desk_memo}
use Rattle.report_api.specs.Names.{Act, BoxedAct}
use Rattle.report_api.specs.Passes.{IsPassOf, IsShared, pass_memo}
use Rattle.report_api.specs.Terms.{is_sensor, term_sizes}
use Rattle.report_api.specs.declared.desk.Desk.{Desk}
use Rattle.report_api.specs.declared.pass.Pass.{Pass}
use Rattle.report_api.specs.declared.shared.Reports.{Reports}
use Rattle.report_api.specs.declared.shared.Shared.{Shared}
use Rattle.report_api.specs.declared.terms.ReportTerms.{ReportTerms}

-- the terms are those of the configuration
pub record IsOfConfig (config : Parts) (terms : ReportTerms) : Type 0 where
  pub sensors : (k : ℕ) → is_sensor terms k ≡ is_reported config k
  pub events : terms.events ≡ length config.events
  pub sizes : term_sizes terms ≡ spec_sizes config.classes
  pub internal : terms.internal ≡ internal_of config

-- a caller at the queue of reports
abbrev pub Caller : Type 0
Caller = QueueSeat Reports BoxedAct ReportTerms Act

-- the pass of a caller and a claimant, with a box
abbrev pub pass_of : (Caller × ClaimSeat) × BoxedAct → Pass
pass_of parts = record { seat = parts.0.0; claimant = parts.0.1; spare = Some parts.1 }

-- the passes of callers, claimants and boxes, one by one
abbrev pub as_passes : List Caller → List ClaimSeat → List BoxedAct → List Pass
as_passes callers claimants spares = map pass_of (zip (zip callers claimants) spares)

-- pass i, which made no call
pub record IsNewPass (shared : Shared) (i : ℕ) (pass : Pass) : Type 0 where
  pub is_pass : IsPassOf shared pass
  pub knows : pass_memo pass ≡ new_memo i

-- all buffers are free, nothing was called, and nothing was taken
pub record IsNewMaking (config : Parts) (shared : Shared) (passes : List Pass) (desk : Desk) : Type 0 where
  pub is_config : IsOfConfig config shared.terms
  pub positions_are : queue_positions shared.queue ≡ config.ring
  pub callers_are : queue_seats shared.queue ≡ config.callers
  pub is_shared : IsShared shared
  pub is_desk : IsDeskOf shared desk
  pub untouched : IsUntouched config.ring config.callers (desk_memo desk)
  pub givers_are : (i : ℕ) (spec : ClassSpec) (giver : Giver) → get_elem? config.classes i ≡ some spec
      → get_elem? (givers_of desk.givers) i ≡ some giver → IsNewGiver spec.number config.callers giver
  pub all_made : length passes ≡ config.callers
  pub each : (i : ℕ) (pass : Pass) → get_elem? passes i ≡ some pass → IsNewPass shared i pass
