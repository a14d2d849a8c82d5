pub mod Faults
pub mod Into
pub mod Layout
pub mod Order
pub mod Sealing
pub mod Tags
pub use Rattle.frame_auth.specs.Faults.{StopsBehind, CannotRead, BeginsSo, StopsSeal, StopsUnseal, Gives, GivesSealed, GivesUnsealed}
pub use Rattle.frame_auth.specs.Into.{HasSealedLength, LacksSealed, PutsSealed, IsWritten, IsSealedInto}
pub use Rattle.frame_auth.specs.Layout.{Moves, CanMark, marked, sealed_bytes, CanUnmark, unmarked}
pub use Rattle.frame_auth.specs.Order.{AreOf, AreFirst, IsOutOfOrder, AnswersInOrder}
pub use Rattle.frame_auth.specs.Sealing.{with_signature, bare, seal_of, sealed, sealed_from, IsPlain, ArePlain, joined_sealed, Copies, IsSealedWith, HasNoSeal, HasOtherCounter}
pub use Rattle.frame_auth.specs.Tags.{IsKeyLength, filled, masked, hmac}
pub use Rattle.frame_auth.specs.declared.fault.SealFault.{SealFault}
pub use Rattle.frame_auth.specs.declared.fault.SealIntoFault.{SealIntoFault}
pub use Rattle.frame_auth.specs.declared.fault.UnsealFault.{UnsealFault}
