-- The names of other crates that many files of this crate cite.
pub use Rattle.chain_plain.specs.Telling.{handed_by}
pub use Rattle.cmd_files.specs.Names.{BadMessage, ConfigFault, Contains, CountsFault, Err, Failed, Files, Heard, IsTrue, List, None, Ok, Option, Read, Result, SameFiles, Shelved, Some, WriteFault, [], codes, decimal, length, ℕ, ⊤}
pub use Rattle.cmd_files.specs.declared.stop.Refusal.TheVariants.{BadConfig, BadCounter, BadJournal, BadMessages, BadSource, BadTag, BadTrace, BadUnit, Differ, EmptyKey, Instance, Signed, TooLarge, TooLong}
pub use Rattle.cmd_files.specs.declared.stop.Stop.TheVariants.{CannotRead, CannotWrite, NoMemory, OnDisk, Refused}
pub use Rattle.cmd_files.specs.declared.stop.DiskStop.{DiskStop}
pub use Rattle.cmd_files.specs.declared.stop.Refusal.{Refusal}
pub use Rattle.cmd_files.specs.declared.stop.Stop.{Stop}
pub use Rattle.cmd_files.specs.Reading.{Comes, Reading, file, gives, if_found, over, refuses, ◌>>=◌}
pub use Rattle.cmd_files.specs.{answer_status, answer_text, number_text, disk_status, row_of, AreWritten, OneFails, Output, SameBut, StandUpTo, Work}
pub use Rattle.cmd_words.specs.Command.{Command, FoldFiles, KeyedFiles, PairFiles, Recording, ReplayFiles, bundle, check, decode, explain, export, fold, gen, keep, migrate, read_by, recall, replay, report, sign, unbundle, usage, verify, word_of, written_by}
pub use Rattle.config_json.specs.{configuration, config_text}
pub use Rattle.filter_chain.specs.History.{count_of, messages_of, rows_of}
pub use Rattle.frame_auth.specs.Sealing.{Copies, joined_sealed}
pub use Rattle.frame_auth.specs.declared.fault.SealFault.{SealFault}
pub use Rattle.frame_auth.specs.declared.fault.UnsealFault.{UnsealFault}
pub use Rattle.history_spec.specs.{misses_context, Round}
pub use Rattle.ids_bundle.specs.Packing.{ArePacked, Packs}
pub use Rattle.ids_bundle.specs.Unpacking.{Unpacks}
pub use Rattle.ids_bundle.specs.declared.fault.PackFault.{PackFault}
pub use Rattle.ids_bundle.specs.declared.fault.UnpackFault.{UnpackFault}
pub use Rattle.ids_config.specs.Parts.{Parts}
pub use Rattle.ids_frame.specs.{MessageParts, joined, messages_read}
pub use Rattle.ids_outside.specs.{Rose, MissesOne}
pub use Rattle.ids_reporter.specs.Sources.{Sources, instance_of}
pub use Rattle.ids_types.specs.Turns.{Turn, entries_of}
pub use Rattle.ids_types.specs.declared.loss.Loss.{Loss}
pub use Rattle.journal.specs.Answers.{told}
pub use Rattle.std.specs.List.{common_prefix_len, list_any}
pub use Rattle.std.specs.Prelude.{Bool, bytes_eq, false, filter, nat_eq, option_map, reverse, sum_by, true, ◌+◌, ◌++◌, ◌∷◌, ◌≡◌}
pub use Rattle.text_spec.specs.{decoded_text, journal_in, Told, journal_text, BadLine, memory_text, trace_in}
