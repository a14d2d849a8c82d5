-- The names of other crates that files of this crate cite.
pub use Rattle.buffer_classes.specs.{Buffer, first_fitting, AllOf, giver_memo, givers_of}
pub use Rattle.buffer_classes.specs.declared.giver.Giver.{Giver}
pub use Rattle.chain_spec.specs.Chain.{IsCausal}
pub use Rattle.filter_chain.specs.{Adds, IsEmpty, IsTranscript, Sends, count_of, messages_of}
pub use Rattle.history_spec.specs.{AreMerged, AreSettled, AskInOrder, Asked, AskedBy, Calls, ClassRest, ClassesRested, IsAsAsked, IsLater, IsMerge, KeepUpFrom, Misses, Rest, Rested, Round, StandsIn, all_losses, calls_between, changes, class_at, entries_before, entries_between, entries_by, entries_from, fates_of, free_at, from_class, greatest, is_lost_report, last_tick, lines_at, lines_of, losses_from, lost_between, misses_context, missing_in, needing, reports, round_ticks, sets, sizes_in, ticks_of, too_many, too_small, turns_between}
pub use Rattle.history_spec.specs.Names.{Carried, ClassSpec, Entry, Loss}
pub use Rattle.ids_config.specs.Parts.{Parts, class_of}
pub use Rattle.ids_config.specs.Valid.{IsValid}
pub use Rattle.ids_types.specs.{Fate, Turn, entries_of, lost}
pub use Rattle.law_closing.specs.{HaveAllCalls, IsMadeFor, came, losses_in, fates_in, calls_by, plain_item}
pub use Rattle.main_function.specs.{AreAllPasses, AreCountsOf, AreSumsOf, Closed, HasPasses, IsManagerOf, IsNewManager, IsSmallHead, KeepsReleased, ReleasedSeats, Rested as RestedTurn, RestsTold, Stands, StaysSo, Turned, calls_by as calls_made_by, last_of, memos_of, rests_of, rests_told, turns_of, with_rest, without_log}
pub use Rattle.main_function.specs.declared.manager.Manager.{Manager}
pub use Rattle.permit_ring.specs.declared.answer.Look.{Look}
pub use Rattle.permit_ring.specs.declared.memo.Rest.{Rest as SeatRest}
pub use Rattle.permit_ring.specs.declared.memo.SeatMemo.{SeatMemo}
pub use Rattle.permit_ring.specs.{GoesOn, IsSettled, ReleasedGoOn, SeesRests, ended, fate_of, get_elem?, resumed, some}
pub use Rattle.report_api.specs.{Absent, Act, AreTied, CarriesAll, DeskMemo, EachSettled, Got, IsOfConfig, IsPassOf, IsReported, Kept, Lost, Missing, Outcome, PassMemo, Report, SetMode, State, asks_back, call_of, calls_in, desk_memo, lost_events, misses_context as missed_by, missing_in as missing_by, pass_memo, plain_act, sizes_of}
pub use Rattle.report_api.specs.declared.pass.Pass.{Pass}
pub use Rattle.report_api.specs.declared.shared.Shared.{Shared}
pub use Rattle.report_api.specs.declared.terms.ReportTerms.{ReportTerms}
pub use Rattle.report_queue.specs.Parts.{queue_positions}
pub use Rattle.text_spec.specs.{AreRounds, AreTicks, Fits, IsAllowedRound, MayAsk, begun_round, is_allowed, last_from}
pub use Rattle.trace_text.specs.{Traced, act_asked, line_asked, line_at, round_at}
