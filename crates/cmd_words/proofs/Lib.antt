pub mod CommandLemmas
pub mod Names
pub mod NumberLemmas
