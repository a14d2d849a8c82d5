pub mod AskOrderLemmas
pub mod ClassRestLemmas
pub mod ContextLemmas
pub mod DecidedLemmas
pub mod FatesLemmas
pub mod FollowsLemmas
pub mod FrontLemmas
pub mod LossLemmas
pub mod Names
pub mod PlaceLemmas
pub mod RestLemmas
mod TotalLemmas
mod WorkedMerge
mod WorkedRests
