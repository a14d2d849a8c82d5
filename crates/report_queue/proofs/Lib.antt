pub mod CallerLemmas
pub mod ClosingLemmas
pub mod MakingLemmas
pub mod Names
pub use Rattle.report_queue.proofs.CallerLemmas.{claimed, holds_ticket}
pub use Rattle.report_queue.proofs.ClosingLemmas.{at_map_back}
pub use Rattle.report_queue.proofs.MakingLemmas.{none_there}
