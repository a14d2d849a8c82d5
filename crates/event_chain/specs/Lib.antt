pub mod Chained
pub mod Kept
pub mod Names
pub mod Ready
pub mod Room
pub mod Standing
pub mod Told
pub use Rattle.event_chain.specs.Chained.{Watched, windows_in, chain_events, chain_kept, IsOneOf, IsSound}
pub use Rattle.event_chain.specs.Ready.{HasEvent, CanTake, SettledAt, is_aggregated, aggregating_in, AreOwn, Windowed, HasPlaces, CanSend, TakesRoom, HasLeft, Stays, Moved}
pub use Rattle.event_chain.specs.Standing.{Weighs, Follows, start_by, BeginsBy, Start, start_of, HasSent, Went, Outcome, Leaves, ended_tick, EndAt, IsAt, IsBehind, Leads, Rests, StandsWatched, Stands}
pub use Rattle.event_chain.specs.Told.{told, bare, ending_of, Knowing, here, entry_moments}
