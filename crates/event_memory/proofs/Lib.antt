pub mod EventsLemmas
pub mod FirstLemmas
pub mod Names
pub mod PlaceLemmas
pub mod StandsLemmas
