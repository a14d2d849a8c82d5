pub mod Names
pub mod TellingLemmas
pub mod TurningLemmas
