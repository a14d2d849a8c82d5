pub mod Contents
pub mod Names
pub mod Plain
pub mod Reading
pub mod Saying
pub mod Texts
pub mod Writing
pub use Rattle.cmd_files.specs.Contents.{bytes_of, file_of}
pub use Rattle.cmd_files.specs.Names.{Stop, CannotRead, CannotWrite, NoMemory, OnDisk, Refused}
pub use Rattle.cmd_files.specs.Plain.{plain_refusal, plain_stop, plain_end}
pub use Rattle.cmd_files.specs.Reading.{gives, refuses, reads, file, ◌>>=◌, if_found, if_read, over, Comes, ReadsTo, Reads, Judges, seen_as}
pub use Rattle.cmd_files.specs.Saying.{put_status, Puts, Says, Tells}
pub use Rattle.cmd_files.specs.Texts.{bad_config_text, fault_word, bad_message_text, bad_source_text, number_text, row_of, disk_status, no_memory_text, stop_text, stop_status, answer_text, answer_status}
pub use Rattle.cmd_files.specs.Writing.{Output, Work, AreWritten, AreUntouched, HoldsPart, StandsInPart, StandUpTo, WriteFails, stop_of_write, IsNoneOf, AreApart, SameBut, names_of, Cuts, output_of, IsCut, CanWrite, AddsTo, Adds, OneFails, WritesTo, Writes}
