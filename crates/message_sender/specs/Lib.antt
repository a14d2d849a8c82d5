pub mod ReportView
pub mod Sender
pub mod SenderView
pub mod Sources
pub use Rattle.message_sender.specs.Sender.{SenderParts, IsSenderOf, message_by, with_held, with_held_back, most_message, IsShort, TakesOne}
pub use Rattle.message_sender.specs.Sources.{source_of, IsNamed, HasSixBits, source_in}
