pub mod Buffers
pub mod Closing
pub mod Holding
pub mod Making
pub mod Names
pub mod Reports
pub mod Resting
pub mod Rests
pub mod Standing
pub mod Taking
pub mod Turning
pub use Rattle.main_function.specs.Buffers.{IsHeld}
pub use Rattle.main_function.specs.Closing.{all_back, OnlyWelcomes, KeepsReleased, AreSumsOf, AreCountsOf, Closed, CloseLeaves}
pub use Rattle.main_function.specs.Holding.{IsHeldBy, IsReleasedBy}
pub use Rattle.main_function.specs.Making.{IsBuilt, IsNewManager}
pub use Rattle.main_function.specs.Reports.{held, ShowsHistory, sweeps_for, MakesTurn}
pub use Rattle.main_function.specs.Resting.{memos_of, IsHeldAt, AreHeld, GoesOnFrom, HaveGoneOn, ReleasedSeats, OnlyMovesGiver, OnlyMoves, Rested, RestLeaves}
pub use Rattle.main_function.specs.Standing.{AreTotals, held_of, AreSentBy, AreAllPasses, Stands, IsManagerOf, largest_size, turns_of, last_of, rests_of, without_log, IsManager, HasPasses, KeepsRoom, StaysSo}
pub use Rattle.main_function.specs.Taking.{item_of, items_of, Took}
pub use Rattle.main_function.specs.Turning.{IsQuick, Turned, most_class_steps, most_steps, IsSmallHead, TurnFails, TurnLeaves}
pub use Rattle.main_function.specs.Rests.{RestsTold, rests_told, with_rest, calls_by, HasRestRoom, KeepsRestRoom}
