-- The names of other crates and of this crate's specs that more than one of its proofs stands on.
pub use Rattle.std.proofs.Common.{ℕ, suc, ◌+◌, ◌*◌, ◌^◌, ◌≤◌, List, [], ◌∷◌, length, sum_by, suc-mul, arith, ◌≡◌, ◌<◌, ◌⊎◌, set, ◌-◌, true, false, Some, None, refl, ap, inl, inr, ◌≢◌, ◌%◌, is_some, Option, sym, ◌∙◌, subst, mod-lt, ◌++◌, zero, Bool, cond, IfSome, take, get_or, ◌/◌, mul-le-mul_right, div-add-mod', rules}
pub use Rattle.std.proofs.lemmas.Bool.{lt-ltb, cases_lt, cases_eq, cases_Bool, le-leb, eq-eqb, ne_eqb}
pub use Rattle.std.proofs.lemmas.Grind.{common_steps}
pub use Rattle.std.proofs.lemmas.List.{length-set, get_or-set_same, get_or-set_other, get_or-replicate, length-replicate, take_more}
pub use Rattle.std.proofs.lemmas.List.Elements.{All-from_get_or}
pub use Rattle.std.proofs.lemmas.List.Sums.{sum_by-le, count_by-le-length, sum_by-set}
pub use Rattle.ring_core.specs.{SeatView, seat_at, IsRing, machine_of, LossWord, PermitWord, with_seat, IsSeat, AreSeats, Holds, armed_count, calls_sum, Claim, after, IsFinished, Ticket0, Finish, mark_at, possible, IsMark, See, Read, Offer, same_word, offered_to, Split, Join, Resume, new_seat, Look, looked, Mark, Sweep, marked, one_more_lost, loss_at, is_idle, with_loss, swept_clean, next, nobody, Step, field_of, IsPackable, HasSizes, after_all, StopsAt, claimed_from, tries_of, packed, unpacked, FreeOrOver, opening}
pub use Rattle.ring_core.specs.Machine.{Machine}
