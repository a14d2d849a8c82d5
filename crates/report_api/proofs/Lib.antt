pub mod AnswerLemmas
pub mod AskLemmas
pub mod MakingLemmas
pub mod Names
pub mod PassLemmas
pub mod ReleaseLemmas
pub mod TiedLemmas
pub mod WelcomeLemmas
pub use Rattle.report_api.proofs.AnswerLemmas.{OneCall, steps_for, lost_call, lost_event, put_call, put_without, put_tells}
pub use Rattle.report_api.proofs.AskLemmas.{first_in, kept_asks, looks_lost}
pub use Rattle.report_api.proofs.PassLemmas.{AddsCall, control_asks, missing_within, missed_adds, pass_after, plain_after, put_adds}
