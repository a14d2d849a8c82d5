pub mod AnsweredLemmas
pub mod MadeLemmas
pub mod Names
