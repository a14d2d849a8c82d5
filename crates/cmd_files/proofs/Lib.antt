pub mod ExitLemmas
pub mod Names
pub mod ReadingLemmas
pub mod WritingLemmas
