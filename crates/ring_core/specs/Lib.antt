pub mod Machine
pub mod Names
pub mod Runs
pub mod Sound
pub mod StateView
pub mod Words
pub use Rattle.ring_core.specs.Machine.{HasSizes, nobody, new_seat, seat_at, mark_at, loss_at, marks_of, all_free, opening, is_idle, same_word, after, claimed_from, offered_to, looked, next, served, marked, with_seat, with_loss, one_more_lost, swept_clean, may_mark, possible, StepAnswers}
pub use Rattle.ring_core.specs.Names.{LossWord, SeatView, Ticket0, Step, Look, Claim, Finish, See, Read, Offer, Mark, Sweep, Split, Join, Resume, PermitWord, length, IfOk, OnErr, MatchResult, Some, None, IfSome, IsFalse}
pub use Rattle.ring_core.specs.Runs.{after_all, StopsAt, RunAnswers}
pub use Rattle.ring_core.specs.Sound.{Holds, armed_count, calls_sum, IsSeat, AreSeats, IsFinished, IsMark, IsRing}
pub use Rattle.ring_core.specs.StateView.{machine_of, IsKept}
pub use Rattle.ring_core.specs.Words.{tries_of, field_of, packed, word_of, unpacked, FreeOrOver, IsPackable, IsReadable}
