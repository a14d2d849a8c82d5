pub mod MessageLemmas
