pub mod Deserts
pub mod Fold
pub mod FoldedJournal
pub mod Headline
pub mod Judge
pub mod Keeping
pub mod Names
pub mod Packing
pub mod Report
pub mod Run
pub use Rattle.cmd_spec.specs.Deserts.{EndsWith, EndsOrFails, DidWork, CanBeDone, IsOfBytes}
pub use Rattle.cmd_spec.specs.FoldedJournal.{due_to, held_back_line, unless_held_back, folded_in}
pub use Rattle.cmd_spec.specs.Headline.{IsOneHistory}
pub use Rattle.cmd_spec.specs.Judge.{config_in, bad_journal, bad_trace, Recorded, told_in, recorded_in, AskedFor, rounds_in, asked_in, keeps, Task, does, migrates, replays, seals, unseals, packs, unpacks, reports, recalls, only_said, Does, Refuses, fold_work, check_judged, messages_judged, gen_work, key_judged, Keyed, keyed_in, reading_of, judge}
pub use Rattle.cmd_spec.specs.Packing.{one_file, IsCopyWork, seal_refusal, unseal_refusal, task_stop, units_text, IsPackWork, pack_refusal, unpack_refusal}
pub use Rattle.cmd_spec.specs.Fold.{without_context, lost_contexts, replay_text, replay_outputs, replay_work}
pub use Rattle.cmd_spec.specs.Report.{is_of, clashes, unless_clash, source_in, sources_in, report_text}
pub use Rattle.cmd_spec.specs.Run.{MayRefuse, Deserves, WasRefused, KeepsConfig, PartWritten, WasDone, StopsFor, EndsAs, RanCommand, Misused, Ran, written_of}
