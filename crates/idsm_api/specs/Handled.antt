-- A caller or a manager, and what the calls of each answer where the other is.
use Rattle.std.specs.Prelude.{◌≡◌, ℕ, ◌<◌, ◌≤◌, List, length, Some, None, Result, Ok, Err}
use Rattle.ids_types.specs.Turns.{Turn}
use Rattle.ids_types.specs.declared.mode.Mode.{Mode}
use Rattle.ids_types.specs.declared.names.EventIndex.{EventIndex}
use Rattle.ids_config.specs.Parts.{Parts}
use Rattle.filter_chain.specs.History.{rows_of}
use Rattle.buffer_classes.specs.Givers.{late_of}
use Rattle.report_api.specs.{Given, sizes_of}
use Rattle.idsm_api.specs.declared.answer.Answer.{Answer}
use Rattle.idsm_api.specs.declared.answer.Answer.TheVariants.{OtherRole, OutOfRange, Done}
use Rattle.idsm_api.specs.declared.caller.Caller.{Caller}
use Rattle.idsm_api.specs.declared.manager.Manager.{Manager}
use Rattle.idsm_api.specs.declared.number.NumberAnswer.{NumberAnswer}
use Rattle.idsm_api.specs.declared.reading.RowAnswer.{RowAnswer}
use Rattle.idsm_api.specs.declared.reading.Status.{Status}
use Rattle.idsm_api.specs.declared.role.Role.{Role}
use Rattle.idsm_api.specs.declared.role.Role.TheVariants.{Calls, Turns}
use Rattle.idsm_api.specs.declared.turning.TurnAnswer.{TurnAnswer}
use Rattle.idsm_api.specs.Calls.{AsksFor, Reports, Sets}
use Rattle.idsm_api.specs.Numbers.{tells, tells_none}
use Rattle.idsm_api.specs.Callers.{log_of}
use Rattle.idsm_api.specs.Reading.{ModeTells, RowTells, StatusTells}
use Rattle.idsm_api.specs.Text.{PartTells}
use Rattle.idsm_api.specs.Roles.{IsFitCaller, IsFitManager, StandsFor, manager_shares, most_bytes}
use Rattle.idsm_api.specs.Turning.{TurnTells, refused, told_by}

-- what holds of a role between two calls
abbrev pub IsFit : Role → Type 0
IsFit (Calls caller) = IsFitCaller caller
IsFit (Turns manager) = IsFitManager manager

-- a report by a caller; a manager makes none and is not changed
abbrev pub RoleReports : Given → Role → Answer → Role → Type 0
RoleReports given (Calls old) answer new = (caller : Caller) × (new ≡ Calls caller) × Reports given old answer caller
RoleReports given (Turns old) answer new = (answer ≡ OtherRole) × (new ≡ Turns old)

-- a control by a caller
abbrev pub RoleSets : AsksFor → Role → Answer → Role → Type 0
RoleSets asks (Calls old) answer new = (caller : Caller) × (new ≡ Calls caller) × Sets asks old answer caller
RoleSets asks (Turns old) answer new = (answer ≡ OtherRole) × (new ≡ Turns old)

-- a turn by a manager; a caller makes none, and neither it nor the buffer is changed
abbrev pub RoleTurns : ℕ → Role → List ℕ → TurnAnswer → Role → List ℕ → Type 0
RoleTurns tick (Turns old) buffer turned new after =
    (manager : Manager) × (new ≡ Turns manager) × TurnTells tick old buffer turned.answer turned.quiet manager after
    × (turned.told ≡ told_by turned.answer manager.manager)
RoleTurns tick (Calls old) buffer turned new after = (turned ≡ refused OtherRole) × (new ≡ Calls old) × (after ≡ buffer)

-- the class is there, and its late buffers are so many; or there is none
abbrev pub LateIs : Manager → ℕ → Answer → ℕ → Type 0
LateIs manager class Done number = (class < length (sizes_of (manager_shares manager))) × (number ≡ late_of manager.manager.desk.givers class)
LateIs manager class OutOfRange number = (length (sizes_of (manager_shares manager)) ≤ class) × (number ≡ 0)
LateIs manager class other number = ⊥

-- how many bytes a buffer for messages has at least
abbrev pub RoleMost : Role → NumberAnswer → Type 0
RoleMost (Turns manager) told = told ≡ tells (most_bytes (manager_shares manager))
RoleMost (Calls caller) told = told ≡ tells_none OtherRole

-- how many records the event memory has
abbrev pub RoleRows : Role → NumberAnswer → Type 0
RoleRows (Turns manager) told = (config : Parts) (turns : List Turn) → StandsFor config turns manager → told ≡ tells (length (rows_of config turns))
RoleRows (Calls caller) told = told ≡ tells_none OtherRole

-- a record of the event memory
abbrev pub RoleRow : Role → ℕ → List ℕ → RowAnswer → List ℕ → Type 0
RoleRow (Turns manager) i buffer told after = (config : Parts) (turns : List Turn) → StandsFor config turns manager
    → RowTells (rows_of config turns) i buffer told.answer told.row after
RoleRow (Calls caller) i buffer told after = (told.answer ≡ OtherRole) × (told.row ≡ None) × (after ≡ buffer)

-- how many buffers of a class are late, where there is such a class
abbrev pub RoleLate : Role → ℕ → NumberAnswer → Type 0
RoleLate (Turns manager) class told = LateIs manager class told.answer told.number
RoleLate (Calls caller) class told = told ≡ tells_none OtherRole

-- how many calls a caller made
abbrev pub RoleCalls : Role → NumberAnswer → Type 0
RoleCalls (Calls caller) told = told ≡ tells (length (log_of caller).calls)
RoleCalls (Turns manager) told = told ≡ tells_none OtherRole

-- the reporting mode of an event, if there is one
abbrev pub RoleMode : Role → EventIndex → Result Mode Answer → Type 0
RoleMode (Turns manager) event (Ok mode) = ModeTells manager event (Some mode)
RoleMode (Turns manager) event (Err refusal) = (refusal ≡ OutOfRange) × ModeTells manager event None
RoleMode (Calls caller) event told = told ≡ Err OtherRole

-- what all turns so far did
abbrev pub RoleStatus : Role → Result Status Answer → Type 0
RoleStatus (Turns manager) (Ok status) = (config : Parts) (turns : List Turn) → StandsFor config turns manager → StatusTells config turns status
RoleStatus (Turns manager) (Err refusal) = ⊥
RoleStatus (Calls caller) told = told ≡ Err OtherRole

-- a part of the lines of the last turn
abbrev pub RoleJournal : Role → ℕ → List ℕ → NumberAnswer → List ℕ → Type 0
RoleJournal (Turns manager) at buffer told after = PartTells manager.manager.log at buffer told.answer told.number after
RoleJournal (Calls caller) at buffer told after = (told ≡ tells_none OtherRole) × (after ≡ buffer)
