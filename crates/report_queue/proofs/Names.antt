-- The names of other crates that several files of this crate cite.
pub use Rattle.atomic_table.proofs.Lists.{at_map, at_index, at_set}
pub use Rattle.permit_ring.proofs.{some_there, got_from, taken_in, more_fronts, at_length, new_ordered, untouched, at_end, gave_of, offer_keeps_order, rested_ordered}
pub use Rattle.permit_ring.specs.{IsSettled, StandsIn, taken_by, waits, ended, ticket_in, AreAllBack, IsKeeperOf, IsSeatOf, filled_of, vacant_of}
pub use Rattle.std.proofs.Common.{◌≡◌, ℕ, zero, suc, ◌+◌, List, [], ◌∷◌, map, length, Option, Some, None, refl, sym, ap, ◌∙◌, eq-zero-or-pos, inl, inr, arith, ◌≤◌, replicate, All, slice_index_or, ◌++◌, Result, Ok, Err, rules}
pub use Rattle.std.proofs.lemmas.Bool.{false≢true}
pub use Rattle.std.proofs.lemmas.Bool.Decides.{nat_tests}
pub use Rattle.std.proofs.lemmas.Grind.{common_steps}
pub use Rattle.std.proofs.lemmas.List.{length-map, get_or_default, length-replicate, length-set}
pub use lib.ListN.{get_elem?}
pub use mathlib.Core.Option.{some, some-injective, some-ne-none}
pub use Rattle.report_queue.specs.{Ticket, Outcome, Lost, Got, SeatMemo, Item, ClaimTells, NamesItsCalls, Queue, QueueSeat, Taker, IsCallerOf, IsNextCaller, IsTakerOf, GoesOn, Releases, Welcomes, admits_all, caller_memo, taker_memo, ticket_of, resumed, resumes, welcomes, KeeperMemo, OffersAll, IsAllTaken, items_of, IsNewQueue, IsUnused, as_callers, caller_number, item_by, to_give_back}
