pub mod AppendingLemmas
pub mod FittingLemmas
pub mod LengthLemmas
pub mod Names
pub mod PrintingLemmas
