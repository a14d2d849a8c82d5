-- The names of other crates and of this crate's specs that more than one of its proofs stands on.
unfoldable pub use Rattle.cmd_spec.specs.Judge.{reading_of}
pub use Rattle.chain_plain.specs.Telling.{ends_of}
pub use Rattle.cmd_files.proofs.Names.{Cuts, IsErrAnd, IsNoneOf, MemoryRefused, Writes, ap, arith, inl, inr, map, names_of, refl, subst, sym, ◌∙◌, ◌≤◌}
pub use Rattle.cmd_files.proofs.WritingLemmas.{cuts_go_on}
pub use Rattle.cmd_files.specs.{plain_end, plain_stop, Reads, if_found, reads, Puts, Tells, put_status, no_memory_text, stop_status, stop_of_write, StandUpTo}
pub use Rattle.cmd_spec.specs.{CanBeDone, check_judged, reports, sources_in, DidWork, EndsOrFails, EndsWith, IsOfBytes, Does, Keyed, Refuses, Task, judge, keeps, packs, recalls, rounds_in, seals, told_in, unpacks, unseals, Deserves, EndsAs, KeepsConfig, MayRefuse, PartWritten, Ran, RanCommand, StopsFor, WasDone, written_of}
pub use Rattle.cmd_spec.specs.Names.{AreWritten, BadConfig, Sources, Bool, CannotRead, CannotWrite, Comes, Command, ConfigFault, Contains, Err, Failed, Files, Heard, Instance, IsTrue, List, NoMemory, None, Ok, OnDisk, OneFails, Option, Parts, Reading, Refusal, Refused, Result, SameBut, Shelved, Some, Stop, TooLong, Turn, Work, WriteFault, [], answer_status, answer_text, bundle, bytes_eq, check, configuration, decode, entries_of, false, file, fold, gen, gives, keep, length, messages_of, migrate, read_by, recall, refuses, replay, report, reverse, row_of, sign, told, true, unbundle, verify, written_by, ℕ, ⊤, ◌++◌, ◌+◌, ◌>>=◌, ◌∷◌, ◌≡◌, DiskStop, MissesOne, disk_status}
pub use Rattle.cmd_words.specs.Command.{KeepFiles, ReportFiles, explain, export}
pub use Rattle.std.proofs.Common.{Bor, suc, append_assoc, length-append, ◌≢◌, Vec}
pub use Rattle.std.proofs.lemmas.Grind.{reverse_onto}
pub use Rattle.std.proofs.lemmas.List.{length-map}
pub use Rattle.std.proofs.lemmas.Slice.Eq.{bytes_eq-Decides}
pub use Rattle.ids_types.specs.declared.entry.Act.{Act}
pub use Rattle.ids_types.specs.declared.entry.Act.TheVariants.{Report}
pub use Rattle.ids_types.specs.declared.entry.Entry.{Entry}
pub use Rattle.std.specs.List.{AllByRecursion, flat_map}
pub use Rattle.std.specs.declared.alloc.Global.{Global}
pub use Rattle.text_spec.specs.{IsJournal, Line, begins, enters, line_for, lines_told, loses, turn_told, Fits, start, text_of, Past, is_act, has_event, journal_grammar, AreFaultless, next}
