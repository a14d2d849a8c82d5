pub mod Limiting
pub mod Meters
pub mod StateView
