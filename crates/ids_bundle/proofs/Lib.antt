mod Names
pub mod PackLemmas
mod UnitLemmas
pub mod UnpackLemmas
