-- What a caller's calls answer, each with its cause, and what they leave.
use Rattle.std.specs.Prelude.{◌≡◌, ℕ}
use Rattle.ids_types.specs.declared.mode.Mode.{Mode}
use Rattle.ids_types.specs.declared.names.EventIndex.{EventIndex}
use Rattle.report_api.specs.Answers.{ControlTells, Controls, Given, ModeTells, Reports as PassReports}
use Rattle.report_api.specs.Names.{PassMemo, State}
use Rattle.report_api.specs.declared.answer.Control.{Control}
use Rattle.report_api.specs.declared.answer.Report.{Report}
use Rattle.report_api.specs.declared.shared.Shared.{Shared}
use Rattle.idsm_api.specs.declared.answer.Answer.{Answer}
use Rattle.idsm_api.specs.declared.caller.Caller.{Caller}
use Rattle.idsm_api.specs.Answers.{control_answer, report_answer}
use Rattle.idsm_api.specs.Roles.{caller_shares}

-- a report was answered so: by its cause, with what it left in the history, what it asked of the buffers, and its steps
pub record Reports (given : Given) (old : Caller) (answer : Answer) (new : Caller) : Type 0 where
  pub report : Report
  pub answer_is : answer ≡ report_answer report
  pub reports : PassReports (caller_shares old) given old.pass report new.pass
  pub shares : new.shared ≡ old.shared

-- what a control asks for: each of its answers with its cause
abbrev pub AsksFor : Type 1
AsksFor = Shared → PassMemo → Control → PassMemo → Type 0

-- a change of the state
abbrev pub asked_state : ℕ → AsksFor
asked_state state = ControlTells (State state)

-- another mode of an event
abbrev pub asked_mode : EventIndex → Mode → AsksFor
asked_mode event mode = ModeTells event mode

-- a control was answered so
pub record Sets (asks : AsksFor) (old : Caller) (answer : Answer) (new : Caller) : Type 0 where
  pub control : Control
  pub answer_is : answer ≡ control_answer control
  pub controls : Controls asks (caller_shares old) old.pass control new.pass
  pub shares : new.shared ≡ old.shared
