pub mod Plain
pub mod StepLemmas
mod ValidLemmas
