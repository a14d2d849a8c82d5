pub mod AgreementLemmas
pub mod CausalLemmas
pub mod ChainLemmas
pub mod FoundLemmas
pub mod JournalLemmas
pub mod LiveLemmas
pub mod Names
pub mod WindowLemmas
mod WorkedWeights
