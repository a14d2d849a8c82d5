pub mod Answers
pub mod Desks
pub mod Making
pub mod Names
pub mod Passes
pub mod Terms
pub use Rattle.report_api.specs.Answers.{Given, given, act_with, ReportTells, PutTells, IsUnder, ReportAsks, context_steps, PutsUnder, Reports, ControlTells, ModeTells, Controls, CarriesAll, IsCall}
pub use Rattle.report_api.specs.Desks.{desk_memo, to_give_back, back_log, log_at, asks_back, AreTied, IsDeskOf, IsNextPass, EachSettled}
pub use Rattle.report_api.specs.Making.{IsOfConfig, Caller, pass_of, as_passes, IsNewPass, IsNewMaking}
pub use Rattle.report_api.specs.Names.{Act, BoxedAct, Outcome, Report, State, SetMode, Absent, Kept, Missing, Lost, Got, PassMemo, DeskMemo}
pub use Rattle.report_api.specs.Passes.{sizes_of, IsShared, pass_memo, lost_events, lost_contexts, steps_of, plain_act, call_of, calls_in, asks_of, misses_context, missing_in, IsPassAt, IsPassOf, IsHeldPass}
pub use Rattle.report_api.specs.Terms.{term_sizes, is_sensor, IsReported, AdmitsAct, IsControl, AdmitsItem, has_event, AdmitsContext}
pub use Rattle.permit_ring.specs.{fate_of}
