pub mod Remembered
pub mod Room
