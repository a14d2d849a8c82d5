-- The names of other crates that many files of this crate cite.
pub use Rattle.cmd_files.specs.declared.stop.DiskStop.{DiskStop}
pub use Rattle.cmd_files.specs.declared.stop.Refusal.{Refusal}
pub use Rattle.cmd_files.specs.declared.stop.Refusal.TheVariants.{BadConfig, BadCounter, BadJournal, BadMessages, BadSource, BadTag, BadTrace, BadUnit, Differ, EmptyKey, Instance, Signed, TooLarge, TooLong}
pub use Rattle.cmd_files.specs.declared.stop.Stop.{Stop}
pub use Rattle.cmd_files.specs.declared.stop.Stop.TheVariants.{CannotRead, CannotWrite, NoMemory, OnDisk, Refused}
pub use Rattle.ids_config.specs.declared.fault.ConfigFault.{ConfigFault}
pub use Rattle.ids_frame.specs.declared.fault.BadMessage.{BadMessage}
pub use Rattle.ids_outside.specs.Faults.{CountsFault, Faults, WantsMemory}
pub use Rattle.ids_outside.specs.Files.{Files, SameFiles, SameOthers}
pub use Rattle.ids_outside.specs.Shelved.{Shelved}
pub use Rattle.ids_outside.specs.Sinks.{Heard, PutCause, PutTakes}
pub use Rattle.ids_outside.specs.declared.faults.FaultKind.TheVariants.{Append, Create, Read}
pub use Rattle.ids_outside.specs.declared.faults.WriteFault.{WriteFault}
pub use Rattle.ids_outside.specs.declared.faults.WriteFault.TheVariants.{Failed, NoMemory as MemoryRefused}
pub use Rattle.std.specs.Borrow.{Bor}
pub use Rattle.std.specs.Prelude.{Contains, Err, IfErr, IsTrue, List, None, Ok, Option, Result, Some, Vec, [], codes, decimal, length, map, nat_lt, take, ℕ, ⊤, ◌++◌, ◌∷◌, ◌≡◌, ◌≤◌, ◌⊎◌}
pub use Rattle.std.specs.declared.alloc.Global.{Global}
