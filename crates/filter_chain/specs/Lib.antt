pub mod History
pub mod Kept
pub mod Parcels
pub mod Transcripts
pub mod Turning
pub use Rattle.filter_chain.specs.History.{newest_tick, last_tick, messages_of, count_of, handed_of, rows_of, Sends}
pub use Rattle.filter_chain.specs.Parcels.{IsShort, parcel_of, all_parcels, HandsBack}
pub use Rattle.filter_chain.specs.Transcripts.{ends_of, IsEmpty, Adds, IsTranscript}
pub use Rattle.filter_chain.specs.Turning.{turn_by, bytes_in, FitsAct, FitsTurn, context_room, FitsLargest, most_sent, carried_room}
