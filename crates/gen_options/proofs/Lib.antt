pub mod RangeLemmas
pub mod ReadingLemmas
