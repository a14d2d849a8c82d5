pub mod Agreement
pub mod Causal
pub mod Live
pub mod Weights
