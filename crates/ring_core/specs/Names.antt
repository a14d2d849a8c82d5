-- The types of this crate and the steps, under one name.
pub use Rattle.ring_core.specs.declared.loss.LossWord.{LossWord}
pub use Rattle.ring_core.specs.declared.seat.SeatView.{SeatView}
pub use Rattle.ring_core.specs.declared.seat.Ticket0.{Ticket0}
pub use Rattle.ring_core.specs.declared.step.Step.{Step}
pub use Rattle.ring_core.specs.declared.step.Step.TheVariants.{Look, Claim, Finish, See, Read, Offer, Mark, Sweep, Split, Join, Resume}
pub use Rattle.ring_core.specs.declared.word.PermitWord.{PermitWord}
pub use Rattle.std.specs.Prelude.{◌≡◌, ℕ, ◌+◌, ◌<◌, List, [], ◌∷◌, length, take, IsSome, Option, Some, None, Result, Ok, Err, ◌≤◌, vec_capacity, ◌%◌, ◌^◌, IsTrue, count_by, sum_by, ◌-◌, ◌*◌, ◌/◌, ◌⊎◌, nat_le, if◌then◌else◌, Bool, true, false, ◌&&◌, not, is_some, is_none, nat_lt, ◌==◌, ◌++◌, replicate, slice_index_or, slice_set, zero, suc, IfOk, OnErr, MatchResult, IfSome, IsFalse}
