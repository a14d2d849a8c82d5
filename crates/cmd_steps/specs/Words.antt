-- The names that the contracts of runs cite.
pub use Rattle.chain_plain.specs.declared.folded.Folded.{Folded}
pub use Rattle.chain_spec.specs.Chain.{IsCausal, messages}
pub use Rattle.cmd_files.specs.{file_of, plain_end, plain_stop, Judges, Reads, if_found, seen_as, Puts, Says, Tells, put_status, CanWrite, Cuts, names_of, output_of, stop_of_write}
pub use Rattle.cmd_spec.specs.{one_file, seal_refusal, task_stop, unseal_refusal, EndsOrFails, EndsWith, folded_in, held_back_line, IsOneHistory, AskedFor, Does, Recorded, Task, asked_in, bad_journal, bad_trace, check_judged, config_in, does, fold_work, gen_work, judge, key_judged, keyed_in, messages_judged, migrates, only_said, packs, reading_of, recorded_in, replays, reports, seals, unpacks, unseals, pack_refusal, units_text, unpack_refusal, lost_contexts, replay_outputs, replay_text, replay_work, without_context, clashes, is_of, report_text, source_in, sources_in, EndsAs, Ran, RanCommand, StopsFor, WasDone, written_of}
pub use Rattle.cmd_spec.specs.Fold.{fold_line, fold_outputs}
pub use Rattle.cmd_spec.specs.Names.{AreWritten, BadMessage, BadMessages, BadSource, CannotRead, CannotWrite, Command, EmptyKey, Err, Failed, Files, FoldFiles, Heard, IsTrue, List, MessageParts, NoMemory, Ok, OnDisk, OneFails, Output, PairFiles, Parts, Reading, Refused, ReplayFiles, Round, SameBut, Shelved, Some, Stop, Told, Turn, Work, WriteFault, [], answer_status, answer_text, number_text, bundle, check, codes, common_prefix_len, config_text, configuration, decode, decoded_text, entries_of, false, fold, gen, journal_text, length, list_any, memory_text, messages_of, messages_read, migrate, misses_context, nat_eq, over, replay, report, reverse, rows_of, sign, sum_by, told, trace_in, unbundle, usage, verify, written_by, ℕ}
pub use Rattle.cmd_steps.specs.Answered.{Finished, IsAnswered, RanWith, RunsWith, TellsFinished, finished_end, written_in}
pub use Rattle.cmd_steps.specs.Made.{HasCome, Makes, work_of}
pub use Rattle.cmd_steps.specs.Outcome.{IsFoldable, IsOutcome, recorded_of}
pub use Rattle.cmd_words.specs.Command.{are_names, are_read_by_clap, asks, command_of, disk_of, explain as explain_command, export as export_command, is_name, keep as keep_command, plain_of, recall as recall_command, replay_of, report_of}
pub use Rattle.cmd_words.specs.CommandView.{CanReport, CanRun, WritesApart, asked, exported_of, files_of, five_of, keep_files_of, keyed_of, pair_of, recording, report_files_of, sized_of, three_of}
pub use Rattle.ids_outside.specs.Sinks.{PutCause}
pub use Rattle.ids_outside.specs.declared.faults.WriteFault.TheVariants.{NoMemory as MemoryRefused}
pub use Rattle.ids_types.specs.declared.entry.Entry.{Entry}
pub use Rattle.std.specs.List.{AllByRecursion, flat_map}
pub use Rattle.std.specs.Prelude.{IfErr, IfOk, OnOk, map, string_bytes, ◌*◌, ◌<◌, ◌^◌, ◌↔◌, ◌≤◌, ◌+◌, ◌∷◌, ◌≡◌}
pub use Rattle.std.specs.declared.alloc.Global.{Global}
pub use Rattle.text_spec.specs.{IsJournal, enters, turn_told}
