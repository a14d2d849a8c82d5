mod MakeLemmas
pub mod StandsLemmas
pub mod Names
