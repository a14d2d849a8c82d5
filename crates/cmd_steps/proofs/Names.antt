-- The names that proofs of runs stand on.
unfoldable pub use Rattle.cmd_spec.specs.Judge.{reading_of}
pub use Rattle.chain_plain.specs.{CanTake, RiseFrom, turn_with, IsReady}
pub use Rattle.cmd_files.proofs.ExitLemmas.{left_with}
pub use Rattle.cmd_files.proofs.ReadingLemmas.{goes_on, judged, left_reading, over_parts, over_then, read_none, read_over, stops_early}
pub use Rattle.cmd_files.specs.{StandsInPart}
pub use Rattle.cmd_spec.proofs.EndLemmas.{cannot_do, left_ends, left_unread, reading_ends, task_found, work_done, work_unwritten}
pub use Rattle.cmd_spec.proofs.JournalLemmas.{cut_at_ends}
pub use Rattle.cmd_spec.proofs.Names.{Bor, Deserves, Instance, IsNoneOf, KeepFiles, Keyed, None, Option, Refusal, Result, Vec, ap, append_assoc, arith, bytes_eq, bytes_eq-Decides, file, gives, inl, inr, keep, keeps, length-append, length-map, recall, recalls, refl, reverse_onto, rounds_in, subst, sym, told_in, true, ⊤, ◌++◌, ◌>>=◌, ◌∙◌, ◌≢◌}
pub use Rattle.cmd_spec.proofs.RunLemmas.{RanSo, did_work, disk_own, ended_others, ended_ran, ended_so, none_deserved, ran_others, refusal_own, served_ends, words_starved}
pub use Rattle.cmd_spec.specs.{IsCopyWork}
pub use Rattle.cmd_steps.specs.Words.{AllByRecursion, AreWritten, AskedFor, CanReport, CannotRead, CannotWrite, Command, Does, EndsAs, Err, Files, Finished, Global, HasCome, Heard, IfErr, IfOk, IsJournal, IsTrue, List, Makes, MessageParts, NoMemory, Ok, OnDisk, PairFiles, Parts, Puts, RanWith, Reading, Reads, Recorded, Refused, ReplayFiles, RunsWith, SameBut, Says, Shelved, Some, Stop, StopsFor, Task, Tells, TellsFinished, Told, Turn, WasDone, Work, [], answer_status, answer_text, are_names, number_text, asked_in, bundle, check, check_judged, clashes, codes, command_of, common_prefix_len, config_in, decode, decoded_text, disk_of, does, entries_of, exported_of, false, file_of, files_of, finished_end, five_of, flat_map, fold, fold_work, folded_in, gen, gen_work, held_back_line, is_of, journal_text, judge, keep_files_of, if_found, keyed_of, length, list_any, lost_contexts, map, memory_text, messages_judged, messages_of, messages_read, migrate, migrates, names_of, nat_eq, one_file, only_said, over, packs, pair_of, plain_end, plain_stop, recorded_in, recording, replay, replay_of, replay_work, replays, report, report_files_of, report_of, reports, reverse, rows_of, seals, seen_as, sign, sized_of, sources_in, stop_of_write, string_bytes, sum_by, three_of, told, turn_told, unbundle, unpacks, unseals, verify, work_of, written_by, ℕ, ◌*◌, ◌+◌, ◌<◌, ◌^◌, ◌↔◌, ◌∷◌, ◌≡◌, ◌≤◌}
pub use Rattle.cmd_words.specs.Command.{explain, export}
pub use Rattle.filter_chain.specs.History.{last_tick}
pub use Rattle.ids_frame.proofs.DecodeLemmas.{Front, are_bytes, decode_tells}
pub use Rattle.gen_options.specs.Given.{given_of}
pub use Rattle.ids_frame.specs.{FitsMessage, AreMessages, joined}
pub use Rattle.ids_reporter.proofs.RunLemmas.{apart_more, small_more}
pub use Rattle.ids_reporter.specs.Sources.{AreApart, AreSmall, Sources, instance_of, source_at}
pub use Rattle.ids_types.specs.MemoryRow.{Row}
pub use Rattle.std.proofs.Common.{drop, get_or, length-drop, min, rules, suc, take, zero, ◌-◌, ◌==◌, ◌⊎◌, vec_capacity, ◌/◌}
pub use Rattle.std.proofs.lemmas.Bool.{cases_eq, eq-eqb, le-ltb, ne_eqb}
pub use Rattle.std.proofs.lemmas.Grind.{common_steps, flat_map-append}
pub use Rattle.std.proofs.lemmas.List.{append-nil, drop_all, drop_more, length-reverse, take_all, take_rest}
pub use Rattle.std.proofs.lemmas.List.Sums.{common_prefix_len-le, count_by-le-length, length-filter, sum-map}
pub use Rattle.std.specs.List.{All}
pub use Rattle.std.specs.Result.{IsErrAnd}
pub use Rattle.text_spec.specs.{message_line, journal_in, line_feed, text_of}
