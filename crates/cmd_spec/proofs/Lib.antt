pub mod EndLemmas
pub mod JournalLemmas
pub mod MayLemmas
pub mod Names
pub mod RunLemmas
