-- The names that more than one proof of this crate stands on.
unfoldable pub use Rattle.cmd_spec.specs.Judge.{reading_of}
pub use Rattle.cmd_disk.specs.Keeping.{HasDiskCause, HasKept, HasSaveCause, Keeping, KeepsBehind, KeepsOneOf, KeepsSome, KeptAtEnd, LeavesAs, LeavesBehind, StopsKeeping, lent, not_begun, rows_behind}
pub use Rattle.cmd_disk.specs.Runs.{TellsEnd, written_end}
pub use Rattle.cmd_files.specs.declared.stop.DiskStop.TheVariants.{Damaged, Failed, FailedAfter, WornAfter}
pub use Rattle.cmd_steps.proofs.Names.{All, AllByRecursion, Bor, CanTake, CannotRead, CannotWrite, Command, Deserves, EndsAs, Err, Global, Heard, IfErr, IsReady, IsTrue, KeepFiles, List, NoMemory, Ok, OnDisk, PairFiles, Parts, Puts, RanSo, Reading, Reads, Recorded, Refusal, Refused, Result, RiseFrom, Row, Shelved, StandsInPart, Stop, StopsFor, Task, Tells, Told, Turn, Vec, [], answer_status, answer_text, ap, append-nil, append_assoc, arith, common_steps, ended_others, ended_so, gives, goes_on, inl, inr, keep, keeps, last_tick, left_with, length, length-append, none_deserved, over, over_then, plain_end, plain_stop, read_none, read_over, reading_ends, recall, recalls, recorded_in, refl, reverse, rows_of, stop_of_write, stops_early, subst, suc, sym, take, take_all, task_found, turn_with, work_done, work_unwritten, ℕ, ⊤, ◌++◌, ◌+◌, ◌^◌, ◌∙◌, ◌∷◌, ◌≡◌, ◌≤◌, ◌⊎◌, keep_files_of, codes, number_text, memory_text, rules, disk_of, pair_of}
pub use Rattle.memory_disk.proofs.RunLemmas.{goes_on_with, is_left, no_call, only_contents, settled_leaves, weaker}
pub use Rattle.memory_disk.specs.Disks.{IsSettled, LeavesOnly, LeavesSince, MayBeLeft, Run, Shown, State, bytes_of}
pub use Rattle.memory_store.specs.Slots.{KeepsRows, Kept, KeptIs, kept_slot}
pub use Rattle.memory_store.specs.declared.store.BeginFault.{BeginFault}
pub use Rattle.cmd_spec.specs.Keeping.{MayStopOnDisk, recall_work}
