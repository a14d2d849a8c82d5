pub mod DecodeLemmas
pub mod FieldLemmas
pub mod MessageLemmas
pub mod MessagesLemmas
pub mod Names
pub mod NumberLemmas
pub mod PartLemmas
