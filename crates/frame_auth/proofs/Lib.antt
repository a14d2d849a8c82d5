pub mod IntoLemmas
pub mod LayoutLemmas
pub mod Names
pub mod OneAnswer
pub mod OrderLemmas
