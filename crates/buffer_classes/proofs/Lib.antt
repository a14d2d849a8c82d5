pub mod AskLemmas
pub mod ByIndexLemmas
pub mod ClaimLemmas
pub mod FittingLemmas
pub mod GiveLemmas
pub mod GiversLemmas
pub mod HoldLemmas
pub mod MakingLemmas
pub mod Names
pub mod PutLemmas
pub use Rattle.buffer_classes.proofs.ByIndexLemmas.{below_more, all_below, all_from, all_then, last_left, last_taken, none_from, still, all_more, Below, From}
pub use Rattle.buffer_classes.proofs.ClaimLemmas.{asked_none, got, in_vain, leaves, seat_ready, AskedTo}
pub use Rattle.buffer_classes.proofs.FittingLemmas.{first_within, first_from, fits_at, many_sizes}
pub use Rattle.buffer_classes.proofs.GiveLemmas.{admitted_before, admitted_last, admitted_more}
pub use Rattle.buffer_classes.proofs.GiversLemmas.{class_there, giver_there, givers_with, givers_below, buffer_there}
pub use Rattle.buffer_classes.proofs.HoldLemmas.{Held, GoneOn, held_claimant, goes_on_as, freed_more}
pub use Rattle.buffer_classes.proofs.MakingLemmas.{as_many, class_made, rise_taken}
pub use Rattle.buffer_classes.proofs.Names.{NoneFree, refl, arith, class_sizes, common_steps, ◌≡◌, ◌+◌, first_fitting, length, nat_tests, ◌++◌, List, GetsSeat, ClassSeat, AllOf, [], sym, append-nil, at_index, GetsOne, there, some, get_elem?, ◌∙◌, take, get_or_default, length-take-le, take_more, vec_capacity, AreGiversOf, Freed, givers_of, ◌<◌, at_length, giver_memo, Some, some-injective, first_back, Welcomed, IsHisSeat, Takes, AreBuffersIn, Begins, Offers, nil_from_length, class_count, IsBufferIn, Puts, ◌∷◌, append_assoc, length_push}
pub use Rattle.buffer_classes.proofs.PutLemmas.{one_put, all_put, gave_back, PutsSome}
