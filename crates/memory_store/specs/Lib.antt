pub mod Answers
pub mod Saving
pub mod Slots
pub mod Stores
