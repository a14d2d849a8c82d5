pub mod EndLemmas
pub mod MergeLemmas
pub mod Names
pub mod RecordingLemmas
pub mod RestLemmas
pub mod RoundLemmas
pub mod RoundLossLemmas
pub mod SyncLemmas
