pub mod PrintedLemmas
mod WorkedTexts
