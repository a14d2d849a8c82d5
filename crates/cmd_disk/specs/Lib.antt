pub mod Completeness
pub mod Keeping
pub mod Runs
