pub mod ForwardLemmas
pub mod Names
pub mod RuleLemmas
pub mod RunLemmas
pub mod SourceLemmas
