pub mod Names
mod ClosingLemmas
mod FittingLemmas
mod GiverLemmas
mod HoldLemmas
mod LargestLemmas
pub mod LogLemmas
mod MakingLemmas
mod QuickLemmas
mod RangeLemmas
mod ReportLemmas
mod RestingLemmas
mod StepLemmas
mod TakingLemmas
mod TurnedLemmas
mod WelcomeLemmas
