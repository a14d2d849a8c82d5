pub mod DrawLemmas
pub mod FitLemmas
mod Names
pub mod RecordingLemmas
