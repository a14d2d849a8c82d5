pub mod ClassRests
pub mod Contexts
pub mod Decided
pub mod Follows
pub mod Fronts
pub mod Losses
pub mod Merge
pub mod Names
pub mod Orders
pub mod Rests
pub mod Rounds
pub mod Settled
pub use Rattle.history_spec.specs.ClassRests.{context_of, fitting_class, kept_class, needing, missing_in, ClassRest, claimed_at, free_at, ClassesRested, AskedBy, entries_between, AskInOrder, from_class, greatest, too_many}
pub use Rattle.history_spec.specs.Contexts.{class_at, sizes_in, too_small, claim_in, claim_of, claims_of, misses_context, Misses, IsLegalMiss}
pub use Rattle.history_spec.specs.Decided.{tickets_from, tickets_of, IsDecided, fates_of, AreDecided, losses_from, all_losses}
pub use Rattle.history_spec.specs.Follows.{Calls, lost_number, small_of, KeptAsks, CarriedAsks, CallAsks}
pub use Rattle.history_spec.specs.Fronts.{and_front, fronts_from, IsFront}
pub use Rattle.history_spec.specs.Losses.{entries_by, calls_of, losses_by, lost_calls_of, entries_before, IsTicket, IsLegalLoss}
pub use Rattle.history_spec.specs.Merge.{AreMerged, IsKeptIn, CarriesAsAsked, IsAsAsked, IsItsLine, IsMerge}
pub use Rattle.history_spec.specs.Orders.{StandsIn, times, once_below, RiseFrom, KeepUpFrom, LossesFrom}
pub use Rattle.history_spec.specs.Rests.{Rest, start, lost_by, IsSettledAt, SeesAll, Rested, IsLater, calls_between, lost_between, turns_between}
pub use Rattle.history_spec.specs.Rounds.{Asked, reports, changes, sets, Round, lines_at, lines_of, round_ticks, last_tick, ticks_of, is_report, is_lost_report}
pub use Rattle.history_spec.specs.Settled.{claims_by, entries_from, IsSettledLog, AreSettled, AreLegalContexts}
