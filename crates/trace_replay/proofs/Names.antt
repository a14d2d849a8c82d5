-- The names of other crates and of this crate's specs that its proofs stand on.
pub use Rattle.std.proofs.Common.{Bool, List, Option, [], add-one, ap, append-nil, append_assoc, arith, drop, drop-cons, false, filter, if◌then◌else◌, inl, inr, length, length-append, map, nat_lt, refl, rules, slice_index_or, subst, suc, sum_by, sym, take, true, vec_capacity, vec_len, zero, ℕ, ◌*◌, ◌++◌, ◌+◌, ◌-◌, ◌<◌, ◌^◌, ◌∙◌, ◌∷◌, ◌≡◌, ◌≤◌, ◌⊎◌}
pub use Rattle.std.proofs.lemmas.Bool.{cases_lt}
pub use Rattle.std.proofs.lemmas.List.{length-map, map-append, take_all, take_more, get_or_past, length_push, take-append-drop, take-append-le, nil_from_length, get_or_append_left, get_or_push, drop_all}
pub use Rattle.std.proofs.lemmas.List.Elements.{filter-append, All-from_recursion}
pub use Rattle.std.proofs.lemmas.List.Folds.{length-flat_map-take}
pub use Rattle.std.proofs.lemmas.List.Sums.{sum_by-cons, sum_by-append}
pub use Rattle.std.proofs.lemmas.Grind.{flat_map-append, common_steps}
pub use Rattle.std.proofs.lemmas.Result.{on_ok_weaker}
pub use Rattle.std.proofs.lemmas.Slice.Zip.{AllZip-long, all_zipped_more}
pub use Rattle.std.proofs.Math.Path.{fun_ext}
pub use Rattle.std.proofs.Math.Seq.{take-append_seam, take-nil, take-suc}
pub use Rattle.std.specs.List.{AllByRecursion, flat_map, AllZip, All}
pub use Rattle.atomic_table.proofs.Lists.{at_map, at_longer, at_last}
pub use Rattle.buffer_classes.proofs.AskLemmas.{below_or, nothing_past}
pub use Rattle.buffer_classes.proofs.ByIndexLemmas.{all_then}
pub use Rattle.history_spec.proofs.AskOrderLemmas.{ask_in_order, asked_by_rest}
pub use Rattle.history_spec.proofs.LossLemmas.{stands_own, loss_is, all_lost, none_lost}
pub use Rattle.law_closing.proofs.PlaceLemmas.{or_at}
pub use Rattle.permit_ring.proofs.ListLemmas.{there, at_length}
pub use Rattle.report_queue.proofs.ClosingLemmas.{at_map_back}
pub use Rattle.text_spec.proofs.JournalFacts.{flat_map-push}
pub use Rattle.text_spec.proofs.TraceFacts.{keep_split, last_from-push, last_of_all, last_small, all_append, all_at, all_split}
pub use Rattle.trace_replay.specs.{Absent, Act, Adds, Advances, AllOf, Answers, AreAllPasses, AreAsked, AreAtRest, AreCountsOf, AreMerged, ArePlaces, AreRounds, AreSettled, AreSumsOf, AreTicks, AreTied, AskInOrder, Asked, AskedBy, Buffer, CallerRest, Calls, CallsOnce, CanPlay, ClassRest, ClassSpec, ClassesRested, Closes, Continues, DeskMemo, EndsRound, Entry, Fate, Giver, Gives, GoesOn, Got, HasListed, HasPasses, HasPlayed, HaveAllCalls, HavePlayed, IsAllowedRound, IsAsAsked, IsAsked, IsAtRest, IsBetween, IsClassRest, IsLater, IsMadeFor, IsManagerOf, IsMerge, IsNewRecorder, IsOfConfig, IsPast, IsRecordOf, IsReplay, IsReplayOver, IsRestOf, IsSettled, IsSmallTurn, IsValid, KeepUpFrom, KeepsReleased, Kept, LiesInItsRound, Lost, Manager, MayAllBeAsked, MayAsk, MayBeAsked, Misses, Missing, Outcome, Parts, Pass, PassMemo, Plays, ReleasedMore, ReleasedSeats, Report, ReportTerms, Rest, Rested, RestedTurn, RestsOnce, Round, RunManager, SeatMemo, SeesRests, Sends, SetMode, Shared, Stands, StandsAt, StandsIn, State, StaysSame, StillRecords, TellsCalls, Told, Traced, Turn, Turned, TurnsAtRest, WasReleased, all_losses, all_rests, as_told, asks_back, begun_round, call_of, calls_between, calls_by, calls_in, calls_of_each, came, changes, class_at, class_of, desk_memo, ended, entries_before, entries_between, entries_by, entries_from, entries_of, fate_of, fates_in, fates_of, first_fitting, gathers, get_elem?, given, giver_memo, givers_in, givers_of, greatest, is_allowed, is_lost_report, last_from, last_of, last_tick, line_at, lines_at, lines_before, lines_from, lines_in, lines_of, loss_of, losses_by, losses_from, losses_in, lost, lost_events, lost_in, lost_report, lost_reports, missed_by, misses_context, missing_by, missing_in, pass_memo, passes_of, plain_act, plain_item, released_by, reports, rest_after, rest_by, rests_before, rests_told, resumed, round_at, round_ticks, sets, sizes_in, sizes_of, some, tick_of, ticks_before, ticks_of, too_many, too_small, turns_between, turns_in, turns_of, views_of, with_rest, without_log}
pub use Rattle.trace_replay.specs.declared.caller.Caller.{Caller}
pub use Rattle.trace_replay.specs.declared.gathered.Gathered.{Gathered}
pub use Rattle.trace_replay.specs.declared.recorder.Recorder.{Recorder}
pub use denote.Param.Send.{IsSend, IsSync, sendable, whole-keyless, struct_sync, recorded_sync, shr_sync, shr_send, Quiet-if}
pub use mathlib.Core.Option.{some-injective, none}
pub use mir.Syntax.{named, of_param}
