pub mod ParcelLemmas
pub mod RoomLemmas
pub mod LogLemmas
pub mod TranscriptLemmas
pub mod Names
