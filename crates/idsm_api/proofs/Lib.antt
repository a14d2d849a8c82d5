pub mod CallerLemmas
pub mod ClosingLemmas
pub mod MakingLemmas
pub mod Names
mod QuietLemmas
