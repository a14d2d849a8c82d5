pub mod Answered
pub mod Made
pub mod Names
pub mod Outcome
pub mod Words
