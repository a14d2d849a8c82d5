pub mod Names
pub mod Replayed
pub mod Rests
pub mod Rounds
pub mod Standing
pub use Rattle.trace_replay.specs.Names.{Absent, Act, Adds, AllOf, AreAllPasses, AreCountsOf, AreMerged, AreRounds, AreSettled, AreSumsOf, AreTicks, AreTied, AskInOrder, Asked, AskedBy, Buffer, Calls, Carried, CarriesAll, ClassRest, ClassSpec, ClassesRested, DeskMemo, EachSettled, Entry, Fate, Fits, Giver, GoesOn, Got, HasPasses, HaveAllCalls, IsAllowedRound, IsAsAsked, IsCausal, IsEmpty, IsLater, IsMadeFor, IsManagerOf, IsMerge, IsNewManager, IsOfConfig, IsPassOf, IsReported, IsSettled, IsSmallHead, IsTranscript, IsValid, KeepUpFrom, KeepsReleased, Kept, Look, Loss, Lost, Manager, MayAsk, Misses, Missing, Outcome, Parts, Pass, PassMemo, ReleasedGoOn, ReleasedSeats, Report, ReportTerms, Rest, Rested, RestedTurn, RestsTold, Round, SeatMemo, SeatRest, SeesRests, Sends, SetMode, Shared, Stands, StandsIn, State, StaysSo, Traced, Turn, Turned, act_asked, all_losses, asks_back, begun_round, call_of, calls_between, calls_by, calls_in, calls_made_by, came, changes, class_at, class_of, count_of, desk_memo, ended, entries_before, entries_between, entries_by, entries_from, entries_of, fate_of, fates_in, fates_of, first_fitting, free_at, from_class, get_elem?, giver_memo, givers_of, greatest, is_allowed, is_lost_report, last_from, last_of, last_tick, line_asked, line_at, lines_at, lines_of, losses_from, losses_in, lost, lost_between, lost_events, memos_of, messages_of, missed_by, misses_context, missing_by, missing_in, needing, pass_memo, plain_act, plain_item, queue_positions, reports, rests_of, rests_told, resumed, round_at, round_ticks, sets, sizes_in, sizes_of, some, ticks_of, too_many, too_small, turns_between, turns_of, with_rest, without_log}
pub use Rattle.trace_replay.specs.Replayed.{Gives, IsReplay, IsReplayOver, IsRestOf, RunManager, given, gives}
pub use Rattle.trace_replay.specs.Rests.{WasReleased, AreAsked, ReleasedMore, IsPast, ticks_before, rest_by, rest_after, IsClassRest, lines_in, lost_in, lines_from, CallerRest, as_told, rests_before, all_rests, TellsCalls, LiesInItsRound}
pub use Rattle.trace_replay.specs.Rounds.{tick_of, IsSmallTurn, gathers, turns_in, released_by, givers_in, IsRecordOf, StillRecords, IsNewRecorder, StaysSame, Advances, Continues, TurnsAtRest, Closes, CanPlay, IsBetween, Plays, RestsOnce, EndsRound, IsPlaceOf, ArePlaces, IsSet}
pub use Rattle.trace_replay.specs.Standing.{MayBeAsked, IsAsked, Answers, lost_report, lost_reports, report_look, control_look, AsksOnce, Told, loss_of, CallsOnce, told, lines_before, MayAllBeAsked, HasPlayed, HasListed, IsAtRest, HasRoom, AreFew, passes_of, views_of, calls_of_each, losses_by, AreAtRest, StandsAt, HavePlayed}
