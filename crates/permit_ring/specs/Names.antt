-- What the ring machine and a ring declare, and the definitions on them that more than one file cites, under one name.
pub use Rattle.ring_core.specs.declared.seat.SeatView.{SeatView}
pub use Rattle.ring_core.specs.declared.seat.Ticket0.{Ticket0}
pub use Rattle.ring_core.specs.declared.step.Step.{Step}
pub use Rattle.ring_core.specs.declared.step.Step.TheVariants.{Look, Claim, Finish, See, Read, Offer, Mark, Sweep, Split, Join, Resume}
pub use Rattle.ring_core.specs.declared.word.PermitWord.{PermitWord}
pub use Rattle.ring_core.specs.{possible, after, mark_at, loss_at, packed, opening, new_seat, seat_at, Holds, offered_to, unpacked, field_of, IsPackable, IsReadable, all_free, IsRing, looked, served, marked, marks_of}
pub use Rattle.permit_ring.specs.declared.answer.Unready.{Unready}
pub use Rattle.permit_ring.specs.declared.keeper.Keeper.{Keeper}
pub use Rattle.permit_ring.specs.declared.memo.Key.{Key}
pub use Rattle.permit_ring.specs.declared.memo.KeeperMemo.{KeeperMemo}
pub use Rattle.permit_ring.specs.declared.memo.Move.{Move}
pub use Rattle.permit_ring.specs.declared.memo.Outcome.{Outcome}
pub use Rattle.permit_ring.specs.declared.memo.Outcome.TheVariants.{Lost, Got}
pub use Rattle.permit_ring.specs.declared.memo.Rest.{Rest}
pub use Rattle.permit_ring.specs.declared.memo.SeatMemo.{SeatMemo}
pub use Rattle.permit_ring.specs.declared.memo.Slot.{Slot}
pub use Rattle.permit_ring.specs.declared.memo.Slot.TheVariants.{Empty, Offered, Finished}
pub use Rattle.permit_ring.specs.declared.memo.View.{View}
pub use Rattle.permit_ring.specs.declared.memo.View.TheVariants.{Sits, Keeps, Spent}
pub use Rattle.permit_ring.specs.declared.ring.Ring.{Ring}
pub use Rattle.permit_ring.specs.declared.seat.Seat.{Seat}
pub use Rattle.ids_types.specs.{Fate, lost, accepted, FatesFrom, AreAllDecided}
pub use Rattle.ids_types.specs.declared.names.Ticket.{Ticket}
pub use Rattle.ring_core.specs.Machine.{Machine}
pub use Rattle.std.specs.Prelude.{◌≡◌, ℕ, ◌%◌, Bool, true, false, ◌==◌, List, [], ◌∷◌, filter, ◌+◌, ◌<◌, ◌≤◌, ◌⊎◌, ◌++◌, length, sum, Option, Some, None, ◌^◌, ◌≢◌, ◌-◌, drop, suc, map, replicate, Result, Ok, Err, ◌&&◌, not, take, ◌||◌, is_some, if◌then◌else◌, zero, sum_by, nat_lt, slice_set, IsTrue, IsFalse, IfOk, IfErr, is_none, OnOk}
pub use mathlib.Core.Option.{some, none, Option as Maybe}
pub use lib.ListN.{get_elem?}
pub use Rattle.atomic_table.specs.Table.{State, step}
