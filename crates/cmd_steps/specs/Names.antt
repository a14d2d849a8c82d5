-- The names of other crates that many files of this crate cite.
pub use Rattle.chain_plain.specs.declared.folded.Folded.{Folded}
pub use Rattle.cmd_files.specs.{plain_refusal, Reads, Cuts, StandsInPart, output_of}
pub use Rattle.cmd_files.specs.declared.stop.DiskStop.TheVariants.{Damaged, Failed, FailedAfter, WornAfter}
pub use Rattle.cmd_spec.specs.{one_file, AskedFor, Does, Keyed, Recorded, Refuses, Task, asked_in, reading_of, Misused, RanCommand}
pub use Rattle.cmd_spec.specs.Names.{AreWritten, Command, Err, Files, Heard, IsTrue, List, None, Ok, Option, PairFiles, Parts, Recording, ReplayFiles, Result, Rose, Round, SameBut, SameFiles, Shelved, Some, Stop, Turn, Work, [], number_text, check, codes, count_of, false, fold, keep, length, messages_of, over, recall, replay, report, reverse, rows_of, written_by, ℕ, ⊤}
pub use Rattle.cmd_words.specs.Command.{KeepFiles, ReportFiles, replay_of, command_of}
pub use Rattle.ids_types.specs.MemoryRow.{Row}
pub use Rattle.std.specs.Borrow.{Bor}
pub use Rattle.std.specs.Prelude.{IfSome, String, Vec, flat_map, map, string_bytes, suc, take, zero}
