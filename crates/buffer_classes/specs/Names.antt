-- The types that the definitions of this crate are about.
pub use Rattle.permit_ring.specs.declared.memo.SeatMemo.{SeatMemo as MemoOf}
pub use Rattle.permit_ring.specs.declared.memo.Outcome.{Outcome as OutcomeOf}
pub use Rattle.permit_ring.specs.declared.seat.Seat.{Seat}
pub use Rattle.permit_ring.specs.declared.memo.KeeperMemo.{KeeperMemo}
pub use Rattle.permit_ring.specs.declared.memo.Outcome.TheVariants.{Lost, Got}
pub use Rattle.permit_ring.specs.declared.ring.Ring.{Ring}
pub use Rattle.permit_ring.specs.{ReapsToEnd, OffersAll, AreAllBack, IsSettled, AllAdmitted, Releases, IsKeeperOf, keeper_memo, seat_memo, vacant_of, filled_of, ring_positions, ring_seats, ring_terms, welcomes, Look, IsHeldAs, IsOrdered, IsSeatOf, seat_calls, seat_number, seat_ticket, new_memo, finishes, got_of, first_back, AreNewSeats, IsUntouched, ended, IsNextHeld}
use Rattle.buffer_classes.specs.Buffers.{Buffer}
pub use Rattle.buffer_classes.specs.declared.class.Buffers.{Buffers}
pub use Rattle.buffer_classes.specs.declared.class.ClassTerms.{ClassTerms}
pub use Rattle.buffer_classes.specs.declared.class.Class.{Class}
pub use Rattle.buffer_classes.specs.declared.class.Classes.{Classes}
pub use Rattle.std.specs.Prelude.{◌≡◌, ℕ, List, length, ◌+◌, ◌<◌, ◌≤◌, ◌⊎◌, ◌++◌, vec_capacity, [], take, sum_by, None, suc, ◌*◌, ◌==◌, if◌then◌else◌, ◌∷◌, Option, Some, Result, Ok, Err, ⊤, ◌^◌, All, count_by, map, nat_lt, ◌-◌, IfErr, IfOk}
pub use mathlib.Core.Option.{some, none, Option as Maybe}
pub use lib.ListN.{get_elem?}
pub use Rattle.buffer_classes.specs.declared.giver.Giver.{Giver}
pub use Rattle.buffer_classes.specs.declared.seat.ClaimSeat.{ClaimSeat}
pub use Rattle.buffer_classes.specs.declared.givers.Givers.{Givers}
pub use Rattle.buffer_classes.specs.declared.seat.Claim.{Claim}
pub use Rattle.buffer_classes.specs.declared.seat.Claim.TheVariants.{Got as GotBuffer, NoneFree}

-- what became of a call at the ring of a class; a claim finishes with nothing
abbrev pub Outcome : Type 0
Outcome = OutcomeOf (Unit {0})

-- what a seat at the ring of a class knows
abbrev pub SeatMemo : Type 0
SeatMemo = MemoOf (Unit {0})

-- a seat at the ring of a class
abbrev pub ClassSeat : Type 0
ClassSeat = Seat Buffers Buffer (Unit {0}) ClassTerms (Unit {0})
