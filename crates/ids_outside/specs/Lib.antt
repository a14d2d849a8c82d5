pub mod Bodies
pub mod Faults
pub mod Files
pub mod HostFiles
pub mod Shelved
pub mod Sinks
pub use Rattle.ids_outside.specs.Bodies.{Given, has_name, names_differ, given_files, files_in, Adds}
pub use Rattle.ids_outside.specs.Faults.{counted, Rose, no_faults, CountsFault, WantsMemory, ReadCause, WriteCause, Plan, IsToFail, CountsCall, ReadFollows, WriteFollows}
pub use Rattle.ids_outside.specs.Files.{SameFiles, SameOthers, Changes, empty_elsewhere, ReadGives, CreateMakes, AddsAtMost, AppendMakes}
pub use Rattle.ids_outside.specs.Shelved.{telling, silent}
pub use Rattle.ids_outside.specs.Sinks.{Misses, Heard, hearing, deaf, no_misses, PutTakes, MissesOne, PutCause}
pub use Rattle.ids_outside.specs.declared.faults.FaultKind.TheVariants.{Read, Create, Append}
