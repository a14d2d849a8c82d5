-- The types that the definitions and the proofs of the queue are about.
pub use Rattle.ids_types.specs.declared.names.Ticket.{Ticket}
pub use Rattle.permit_ring.specs.declared.memo.KeeperMemo.{KeeperMemo}
pub use Rattle.permit_ring.specs.declared.memo.Outcome.{Outcome}
pub use Rattle.permit_ring.specs.declared.memo.Outcome.TheVariants.{Lost, Got}
pub use Rattle.permit_ring.specs.declared.memo.SeatMemo.{SeatMemo}
pub use Rattle.report_queue.specs.declared.cargo.Item.{Item}
pub use Rattle.report_queue.specs.declared.seat.Queue.{Queue}
pub use Rattle.report_queue.specs.declared.seat.QueueSeat.{QueueSeat}
pub use Rattle.report_queue.specs.declared.taker.Taker.{Taker}
