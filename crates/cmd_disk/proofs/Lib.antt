pub mod CompletenessLemmas
pub mod EndLemmas
pub mod KeepLemmas
pub mod Names
pub mod SavingLemmas
