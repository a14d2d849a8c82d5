pub mod Bytes
pub mod Context
pub mod Decoding
pub mod Message
pub mod MessageView
pub mod Messages
pub mod Reading
pub mod Room
pub mod Spelling
pub use Rattle.ids_frame.specs.Bytes.{IsByte, AreBytes}
pub use Rattle.ids_frame.specs.Context.{ContextPart, most_bytes, FitsContext, context_of}
pub use Rattle.ids_frame.specs.Decoding.{BeginsWith, IsCut, StrangeVersion, StrangePart, CauseOf, Begins, decoded}
pub use Rattle.ids_frame.specs.Message.{last_version, IsKnown, MessageParts, HasRoom, FitsMessage}
pub use Rattle.ids_frame.specs.Messages.{joined, AreMessages, IsJoined, HasMessages, Held, Holds, before, messages_of}
unfoldable pub use Rattle.ids_frame.specs.Messages.{held_in, messages_read}
pub use Rattle.ids_frame.specs.Reading.{Read, ◌>>=◌, Gives, bytes_at, byte_at, number_at, optional, stamp_at, length_at, context_at, signature_at, has_layout, has, message_of, parts_at, Begun}
unfoldable pub use Rattle.ids_frame.specs.Reading.{message_at}
pub use Rattle.ids_frame.specs.Spelling.{flag, header, event_part, stamp_part, length_in, context_part, signature_part, spelling}
pub use Rattle.ids_frame.specs.declared.fault.FrameFault.{FrameFault}
