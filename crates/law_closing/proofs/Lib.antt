pub mod ClosedLemmas
pub mod CountLemmas
pub mod EntryLemmas
pub mod FateLemmas
pub mod Names
pub mod PlaceLemmas
pub mod SizeLemmas
pub use Rattle.law_closing.proofs.ClosedLemmas.{rings_have, all_calls, settled_classes}
pub use Rattle.law_closing.proofs.CountLemmas.{all_accepted}
pub use Rattle.law_closing.proofs.PlaceLemmas.{or_at}
