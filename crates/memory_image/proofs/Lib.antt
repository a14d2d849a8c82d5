pub mod ImageLemmas
pub mod JournalLemmas
