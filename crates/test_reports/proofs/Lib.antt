pub mod PassesLemmas
