pub mod Counting
pub mod Slots
