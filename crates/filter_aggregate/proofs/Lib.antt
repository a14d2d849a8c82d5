pub mod AccountLemmas
pub mod Names
pub mod SlotLemmas
pub mod StandsLemmas
mod StepLemmas
