pub mod Closing
pub mod Items
pub mod Making
pub mod Names
pub mod Parts
pub mod Taking
pub use Rattle.permit_ring.specs.{ClaimTells, ReapTells, reaps_all, ReapsToEnd, OffersAll, claimed_at, ticket_got, vacant_after, AreAllBack, AreAllSwept, fate_of, got_of, StandsIn, finishes, adds_mark, sweeps, welcomes, new_memo, IsUntouched, SeesRests, ended, first_back, resumes, resumed, Releases}
pub use Rattle.report_queue.specs.Closing.{items_of, IsWholeCaller, IsAllTaken}
pub use Rattle.report_queue.specs.Items.{admits_all, item_note, item_by, marks_made, admits_item, NamesItsCalls}
pub use Rattle.report_queue.specs.Making.{as_callers, IsUnused, IsNewQueue}
pub use Rattle.report_queue.specs.Names.{Ticket, KeeperMemo, Outcome, Lost, Got, SeatMemo, Item, Queue, QueueSeat, Taker}
pub use Rattle.report_queue.specs.Parts.{queue_positions, queue_seats, queue_terms, caller_number, calls_of, ticket_of, caller_memo, taker_memo, to_give_back, IsCallerOf, IsIdle, IsHeldCaller, IsNextCaller, IsTakerOf}
pub use Rattle.report_queue.specs.Taking.{Takes, Sweeps, GivesBack, Welcomes, GoesOn}
