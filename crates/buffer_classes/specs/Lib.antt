pub mod Buffers
pub mod ByIndex
pub mod Claims
pub mod Classes
pub mod Givers
pub mod Giving
pub mod Making
pub mod Names
pub mod Seats
pub use Rattle.buffer_classes.specs.Buffers.{Buffer, filled_with, IsBufferOf, found_full, no_note, admits_all}
pub use Rattle.buffer_classes.specs.ByIndex.{AllOf}
pub use Rattle.buffer_classes.specs.Claims.{ticket, asked, lost_at, Asks, AsksClass, ClaimTells, claim_with, outcome_of, finish_of, AreSmall, HoldsSoMany}
pub use Rattle.buffer_classes.specs.Classes.{class_sizes, first_fitting, RiseFrom, class_terms, AreClasses}
pub use Rattle.buffer_classes.specs.Givers.{givers_of, AreGiversOf, IsBufferIn, AreBuffersIn, class_count, late_of, GaveBack, Welcomed, Freed, IsNextClaimant}
pub use Rattle.buffer_classes.specs.Giving.{ClassMemo, giver_memo, vacant_count, filled_count, IsGiverOf, Begins, Puts, Offers, Takes, Frees, late_count, in_all, IsFilledUp, ReapsAll, FillsLate}
pub use Rattle.buffer_classes.specs.Making.{IsSpec, spec_sizes, AreSpecs, IsNewGiver, IsNewClass, GetsOne, GetsSeat, IsNewClaimant, AreNewClasses, AreUnseated, HasRoom}
pub use Rattle.buffer_classes.specs.Names.{SeatMemo, Outcome, ClassTerms, Lost, Got, Class, ClassSeat, [], length, vec_capacity, ended, None, IsHeldAs, IsNextHeld, IsSeatOf, filled_of, ring_terms, seat_memo, seat_ticket, vacant_of, ℕ, IfErr, IfOk, some, get_elem?, ring_seats, seat_calls, List, take, AllAdmitted}
pub use Rattle.buffer_classes.specs.Seats.{claimant_of, claims_of, steps_of, memo_in, memo_at, log_of, IsClassSeat, IsHisSeat, IsClaimSeatOf, IsHisHeld, IsHeldClaimant}
