pub mod Names
mod ClosingLemmas
mod Going
mod HandsLemmas
mod HeadLemmas
mod RestLemmas
mod RoomLemmas
mod SoundLemmas
mod WayLemmas
