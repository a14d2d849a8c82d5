-- The names of other crates and of this crate's specs that more than one of its proofs stands on.
pub use Rattle.std.proofs.Common.{◌≡◌, ◌≢◌, ℕ, zero, suc, ◌+◌, ◌<◌, ◌≤◌, ◌==◌, ◌⊎◌, List, [], ◌∷◌, ◌++◌, length, set, refl, sym, ap, ◌∙◌, if◌then◌else◌, arith, inl, inr, get_or, map, eq-zero-or-pos, take, cond, length-append, ◌-◌, ◌*◌, ◌^◌, ⊎_elim, All, drop, add-one, None, vec_capacity, nat_lt, Some}
pub use Rattle.std.proofs.lemmas.List.{length-set, append-nil, append_assoc, length_push, length-map, map_push, nil_from_length, get_or_default, length-take-le, take_more, length-replicate}
pub use Rattle.atomic_table.proofs.Lists.{at_set, at_index, at_last, at_longer, at_map, at_snoc, drop_at, set_here, set_else}
pub use Rattle.ids_types.specs.declared.class_spec.ClassSpec.{ClassSpec}
pub use Rattle.permit_ring.proofs.{at_length, there, at_end, new_ordered, only_reaps, end_steps, gave_of, untouched, reaps_push, offer_keeps_settled, rested_ordered}
pub use Rattle.permit_ring.specs.{seat_memo, reaps_all, OffersAll, IsNewSeat, new_memo, filled_of, AllAdmitted, ring_seats, ring_terms, seat_calls, keeper_memo, IsHeldAs, IsSeatOf, ended, first_back, resumed, seat_ticket, got_of}
pub use Rattle.buffer_classes.specs.{Asks, AsksClass, ClaimTells, asked, lost_at, claimant_of, claims_of, log_of, memo_at, steps_of, Class, ClassSeat, Lost, Got, Outcome, SeatMemo, IsHisSeat, Buffer, IsBufferOf, RiseFrom, class_sizes, first_fitting, IsClaimSeatOf, IsClassSeat, AreGiversOf, IsBufferIn, givers_of, AllOf, AreClasses, GetsSeat, IsNewClaimant, spec_sizes, GaveBack, class_count, Begins, Offers, Puts, AreBuffersIn, Takes, Welcomed, Freed, class_terms, IsGiverOf, filled_count, vacant_count, giver_memo, FillsLate, AreNewClasses, GetsOne, IsNewClass, AreUnseated, IsNewGiver, Frees, IsHeldClaimant, IsHisHeld, AreSmall, HoldsSoMany, finish_of, get_elem?}
pub use Rattle.buffer_classes.specs.Names.{Classes, Giver, Givers, ClaimSeat, Claim, GotBuffer, NoneFree}
pub use Rattle.std.proofs.lemmas.Bool.Decides.{nat_tests}
pub use Rattle.std.proofs.lemmas.Grind.{common_steps}
pub use Rattle.std.proofs.lemmas.List.Sums.{sum_by_push, sum_by-set}
pub use mathlib.Core.Option.{some, none, some-injective}
