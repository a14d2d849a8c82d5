-- The names of other crates and of this crate's specs that more than one of its proofs stands on.
pub use Rattle.std.proofs.Common.{◌≡◌, ℕ, ◌+◌, ◌-◌, ◌/◌, ◌%◌, ◌^◌, ◌<◌, ◌≤◌, List, [], ◌∷◌, ◌++◌, length, Some, None, refl, sym, ap, subst, ◌∙◌, get_or, arith, ◌*◌, false, drop, Ok, Err, append_assoc, zero, suc, ◌==◌, true, take, replicate, Bool, Result, Fits, w8, ◌≢◌, option_copied, le-ltb, eqb-true, Option, IfSome, is_some, ok_or, ◌↔◌}
pub use Rattle.std.proofs.lemmas.List.{append-nil, length-append, take_at, drop_at, take-append-drop, length-take, length-replicate, get_or_past, get_or_default}
pub use Rattle.std.proofs.lemmas.List.Elements.{All-tail, All-append, All-head, All-take, All-replicate, All-from_recursion, All-drop}
pub use Rattle.std.specs.Int.{w16, w32, w64, to_be_bytes, Width, byte_len, from_be_bytes}
pub use Rattle.std.specs.Result.{result_ok}
pub use Rattle.ids_frame.specs.{AreBytes, IsByte, FitsContext, most_bytes, IsCut, Begins, BeginsWith, MessageParts, FitsMessage, IsKnown, Read, ◌>>=◌, number_at, has, message_of, Begun, bytes_at, byte_at, optional, stamp_part, length_in, context_part, signature_part, flag, header, spelling, CauseOf, decoded, FrameFault}
pub use Rattle.ids_frame.specs.declared.context.Form.{Form}
pub use Rattle.std.proofs.lemmas.Grind.{common_steps}
