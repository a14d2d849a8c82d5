-- The names of other crates and of this crate's specs that more than one of its proofs stands on.
pub use Rattle.std.proofs.Common.{◌≡◌, ℕ, ◌+◌, ◌==◌, Some, List, length, refl, sym, ◌∙◌, subst, eq-eqb, arith, zero, suc, ◌≤◌, if◌then◌else◌, [], ◌∷◌, map, inr, ap, ◌<◌, ◌++◌, ◌-◌, Option, None, ap₂, append_assoc, ◌⊎◌, take, inl, get_or, Bool, true, filter, nat_lt, ◌≢◌, rules, ◌*◌, false, drop, ◌&&◌, max, nat_le}
pub use Rattle.std.proofs.lemmas.Bool.{cases_eq, cases_Bool, cases_lt, ltb-false, cond_both}
pub use Rattle.std.proofs.lemmas.List.{append-nil, length-append, length-map, map-append, length-take-le, take-append-drop}
pub use Rattle.ids_config.specs.Parts.{Parts, class_of}
pub use Rattle.ids_types.specs.{Turn, entries_of, Fate, lost, accepted, claims_got, end_of, start_of, FatesFrom, end_from, AreAllDecided}
pub use Rattle.history_spec.specs.{sizes_in, too_small, claims_of, IsLegalMiss, claim_of, Misses, class_at, fates_of, AreDecided, tickets_from, tickets_of, IsDecided, losses_from, all_losses, entries_by, calls_of, losses_by, lost_calls_of, entries_before, IsTicket, IsLegalLoss, AreMerged, IsItsLine, IsMerge, StandsIn, times, once_below, RiseFrom, KeepUpFrom, LossesFrom, claims_by, AreSettled, AreLegalContexts, entries_from, IsSettledLog, Rest, start, lost_by, Rested, IsSettledAt, SeesAll, IsLater, calls_between, lost_between, turns_between, context_of, fitting_class, kept_class, ClassRest, ClassesRested, AskedBy, AskInOrder, entries_between, needing, missing_in, claimed_at, free_at, from_class, greatest, too_many}
pub use Rattle.history_spec.specs.Follows.{Calls, Follows, CallAsks, KeptAsks, lost_number, small_of}
pub use Rattle.history_spec.specs.Names.{Act, Entry, Loss, Absent, Kept, Missing, Report, State, SetMode, ClassSpec, Carried}
pub use Rattle.ids_types.proofs.FatesLemmas.{fate_within, fates_in_order}
pub use Rattle.std.proofs.lemmas.Grind.{common_steps, flat_map-append}
pub use lib.ListN.{get_elem?}
pub use mathlib.Core.Option.{some, some-injective}
pub use Rattle.std.specs.List.{AllByRecursion}
pub use Rattle.std.proofs.lemmas.List.Elements.{filter-append}
