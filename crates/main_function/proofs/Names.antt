-- The names of other crates and of this crate's specs that more than one of its proofs stands on.
pub use Rattle.std.proofs.Common.{◌≡◌, ℕ, suc, ◌+◌, ◌<◌, Option, List, [], ◌∷◌, ◌++◌, length, map, refl, sym, subst, ap, ◌∙◌, sum, sum_by, arith, ◌*◌, ◌≤◌, IfSome, rules, max, None, get_or, take, ◌^◌, Ok, Err, slice_set, ◌-◌, vec_capacity, min, reverse, add-one, inl, inr, true, eq-zero-or-pos, zero, ◌≢◌, Some, drop, vec_len}
pub use Rattle.std.proofs.lemmas.Grind.{common_steps, flat_map-append}
pub use Rattle.std.proofs.lemmas.List.{length-map, length-replicate, map-append, take_more, append-nil, append_assoc, length-take-le, set-append_left, take_all, map_push, nil_from_length, append_cancel_left, length-set, length_push, reverse-append, drop_all}
pub use Rattle.std.proofs.lemmas.List.Elements.{All-from_recursion, All-weaker, recursion_from_All, All-nil, All-push, All-append}
pub use Rattle.std.proofs.lemmas.List.Sums.{sum_by-cons, sum_by_push, fold_push}
pub use Rattle.std.specs.List.{All, AllByRecursion, fold, list_all}
pub use Rattle.buffer_classes.specs.{Buffer, AllOf, givers_of, AreBuffersIn, IsSpec, Welcomed, AreGiversOf, late_of, spec_sizes, AreSpecs, GaveBack, ClassMemo, giver_memo, memo_at, RiseFrom}
pub use Rattle.filter_chain.specs.{HandsBack, IsShort, all_parcels, parcel_of, FitsAct, FitsLargest, FitsTurn, turn_by, most_sent, newest_tick, count_of, handed_of, last_tick}
pub use Rattle.law_closing.proofs.{all_calls, all_accepted, settled_classes, rings_have, or_at}
pub use Rattle.law_closing.specs.Closed.{came, plain_item}
pub use Rattle.ids_config.specs.Parts.{Parts, class_of}
pub use Rattle.ids_types.specs.{act_by, entry_by, Turn}
pub use Rattle.ids_types.specs.declared.entry.Entry.{Entry}
pub use Rattle.ids_types.specs.declared.entry.TurnHead.{TurnHead}
pub use Rattle.report_api.specs.{EachSettled, Act, DeskMemo, PassMemo, lost_events, missing_in, Report, Kept, AdmitsAct, AdmitsItem, term_sizes, IsNewMaking, sizes_of, IsPassOf, IsDeskOf, desk_memo, to_give_back, pass_memo, IsNextPass, Missing}
pub use Rattle.report_api.specs.declared.desk.Desk.{Desk}
pub use Rattle.report_api.specs.declared.pass.Pass.{Pass}
pub use Rattle.report_api.specs.declared.shared.Shared.{Shared}
pub use Rattle.report_api.specs.declared.terms.ReportTerms.{ReportTerms}
pub use Rattle.report_queue.specs.{AreAllBack, AreAllSwept, IsAllTaken, ReapTells, queue_positions, item_note, reaps_all, welcomes}
pub use Rattle.main_function.specs.{Closed, IsQuick, OnlyMoves, OnlyWelcomes, all_back, ShowsHistory, AreTotals, AreSentBy, held_of, IsManagerOf, Stands, Turned, IsHeld, held, items_of, MakesTurn, Took, item_of, largest_size, sweeps_for, IsBuilt, IsNewManager, AreHeld, GoesOnFrom, IsHeldAt, IsHeldBy, IsReleasedBy, ReleasedSeats, memos_of, without_log, last_of, AreSumsOf, AreAllPasses, HaveGoneOn}
pub use Rattle.main_function.specs.declared.manager.Manager.{Manager}
pub use Rattle.main_function.specs.declared.rest.Sent.{Sent}
pub use Rattle.main_function.specs.declared.rest.Totals.{Totals}
pub use Rattle.buffer_classes.specs.declared.giver.Giver.{Giver}
pub use Rattle.ids_types.specs.declared.class_spec.ClassSpec.{ClassSpec}
pub use Rattle.permit_ring.proofs.{end_steps, gave_of, only_reaps, reaps_push, at_length, there}
pub use lib.ListN.{get_elem?}
pub use mathlib.Core.Option.{some, some-injective}
pub use Rattle.atomic_table.proofs.Lists.{at_map, at_last, at_longer, at_set, drop_at, set_here, set_else, at_index}
pub use Rattle.report_queue.proofs.ClosingLemmas.{at_map_back, taken_on}
pub use Rattle.permit_ring.specs.{ended, marks_back, Releases, first_back, resumed, resumes, seat_memo, AllAdmitted}
pub use Rattle.buffer_classes.proofs.{all_then, admitted_before, admitted_last, none_from, all_below}
pub use Rattle.std.proofs.Math.Seq.{take-suc-set, take-set-lt}
pub use Rattle.std.proofs.lemmas.Bool.Decides.{nat_tests}
pub use mathlib.Core.List.{reverse_aux, map-map}
pub use Rattle.ids_config.specs.{IsValid, parts_of}
