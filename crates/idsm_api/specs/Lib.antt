pub mod Answers
pub mod Callers
pub mod Calls
pub mod Closing
pub mod Handled
pub mod Making
pub mod Numbers
pub mod Reading
pub mod Roles
pub mod Text
pub mod Turning
pub mod Writing
pub use Rattle.idsm_api.specs.Answers.{code_of, report_answer, control_answer}
pub use Rattle.idsm_api.specs.Callers.{number_of, may_report, CallLog, log_in, log_of, no_calls, IsSameCaller, AreSameCallers, HasAll, ReportLogs, ReportDoes, AreAllCallers, AreCounted}
pub use Rattle.idsm_api.specs.Calls.{Reports, asked_state, asked_mode, Sets}
pub use Rattle.idsm_api.specs.Closing.{no_totals, CloseMade, CloseTells, CountsTell}
pub use Rattle.idsm_api.specs.Handled.{IsFit, RoleReports, RoleSets, RoleTurns, RoleMost, RoleRows, RoleRow, RoleLate, RoleMode, RoleCalls, RoleStatus, RoleJournal}
pub use Rattle.idsm_api.specs.Making.{passes_of, most_bytes_for, IsNewSetup, MakesSetup}
pub use Rattle.idsm_api.specs.Roles.{caller_shares, manager_shares, ChainManager, chain_stands, chain_events, chain_kept, StandsFor, most_bytes, IsFitCaller, IsFitManager}
pub use Rattle.idsm_api.specs.Text.{HasLines, IsNewText, LacksLines, LinesTell, Notes, PartTells}
pub use Rattle.idsm_api.specs.Turning.{nothing_told, refused, told_in, told_by, MayTurn, Refuses, TurnMade, TurnTells}
pub use Rattle.idsm_api.specs.Writing.{IsWritten, Puts}
pub use Rattle.idsm_api.specs.declared.answer.Answer.TheVariants.{Done}
pub use Rattle.idsm_api.specs.declared.caller.Caller.{Caller}
pub use Rattle.idsm_api.specs.declared.role.Role.{Role}
pub use Rattle.report_api.specs.{Given, given}
