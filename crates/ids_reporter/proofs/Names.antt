-- The names of other crates and of this crate's specs that its proofs stand on.
pub use Rattle.crossbeam_queue.proofs.Lists.{at_set, set_else}
pub use Rattle.crossbeam_queue.specs.Passes.{view, ruled_capacity}
pub use Rattle.ids_frame.proofs.MessagesLemmas.{read_is_held}
pub use Rattle.ids_frame.specs.{AreBytes, MessageParts, Held, joined, messages_of, messages_read, spelling}
pub use Rattle.ids_reporter.specs.Sources.{IsIndexOf, IsIndexed, end_of, instance_of, spelling_at, AreApart, AreSmall, Sources, count_at, source_at}
pub use Rattle.ids_reporter.specs.{indexes, upto, AreInOrder, AreFeeding, AreMerged, named, named_by, IsWorking, StaysAtWork, AreAllTaken, back_of, feeders_of, number_of, puts_of, taken_of, IsAt, AreAt, IsFeeding, IsDrainOf, known, IsBackIn, IsNewRelay, AddsUp, AreWithin, Fits, HasEnded, HasPut, HasTaken, IsDraining, IsRelayed, new_feeder, with_back, with_feeder, with_taken, taken_in, made_in, back_in, Nothing, Feeds, Drains}
pub use Rattle.ids_reporter.specs.declared.drain.Drain.{Drain}
pub use Rattle.ids_reporter.specs.declared.feeder.Feeder.{Feeder}
pub use Rattle.ids_reporter.specs.declared.index.Index.{Index}
pub use Rattle.ids_reporter.specs.declared.index.Instance.TheVariants.{One, Mixed}
pub use Rattle.ids_reporter.specs.declared.rule.Known.{Known}
pub use Rattle.ids_reporter.specs.declared.rule.Taken.{Taken}
pub use Rattle.std.proofs.Common.{◌≡◌, ◌≢◌, ℕ, zero, suc, ◌+◌, ◌^◌, ◌<◌, ◌≤◌, ◌⊎◌, inl, inr, List, [], ◌∷◌, ◌++◌, length, take, Some, None, refl, sym, ap, subst, ◌∙◌, append_assoc, arith, rules, ◌==◌, if◌then◌else◌, ◌-◌, Ok, Bool, true, drop, get_or, vec_capacity, vec_len}
pub use Rattle.std.proofs.Math.ListN.{set, get_or-append}
pub use Rattle.std.proofs.Math.Seq.{get_or-append_seam}
pub use Rattle.std.proofs.lemmas.Bool.{cases_lt, eqb-true}
pub use Rattle.std.proofs.lemmas.Grind.{common_steps, flat_map-append}
pub use Rattle.std.proofs.lemmas.List.{length-append, take-append-drop, take-append-le, take_all, take_at, get_or_past, map-id}
pub use Rattle.std.proofs.lemmas.List.Elements.{filter_map-append}
pub use Rattle.std.proofs.lemmas.List.FromFn.{length-range_with_len, map-range_with_len_more, take-map-range_with_len}
pub use Rattle.std.proofs.lemmas.Option.{none-some, same_Some, slice_get_cases, slice_get_within, gets, get_or_from_slice_get}
pub use Rattle.std.specs.List.{list_all, AllByRecursion, cons_option, filter_map, range_with_len}
pub use Rattle.std.specs.Prelude.{Option, IfOk, option_to_list, slice_get, slice_range, All, OnOk, Result, filter, is_ok, MatchOption, OnErr, ok_or}
pub use lib.ListN.{get_elem?}
pub use mathlib.Core.Option.{some}
pub use Rattle.std.proofs.lemmas.Bool.Decides.{nat_tests}
