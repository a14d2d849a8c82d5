pub mod Calls
pub mod Closed
pub use Rattle.law_closing.specs.Calls.{fates_in, accepted_in, calls_by, IsOfTicket, StandInOneOrder, HaveAllCalls, losses_in}
pub use Rattle.law_closing.specs.Closed.{plain_item, came, HaveSizes, HaveNumbers, GiversHaveNumbers, IsMadeFor, ClosedDesk}
