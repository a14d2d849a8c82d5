pub mod AccountLemmas
pub mod ClosedLemmas
pub mod CoverLemmas
pub mod EventLemmas
pub mod GrowthLemmas
pub mod Names
pub mod PassLemmas
pub mod QuietLemmas
pub mod StageLemmas
pub mod StepLemmas
mod WorkedHistories
