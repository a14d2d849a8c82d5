pub mod Recorded
pub mod Telling
pub use Rattle.chain_plain.specs.Recorded.{turn_with, CanTake, RiseFrom, AreInOrder, CanFold}
pub use Rattle.chain_plain.specs.Telling.{handed_by, Tallies, Tells, HasDeskRoom, IsReady}
