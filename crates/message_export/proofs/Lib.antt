pub mod ExportLemmas
pub mod ReaderLaws
pub mod Names
