pub mod CopyLemmas
pub mod LinesLemmas
