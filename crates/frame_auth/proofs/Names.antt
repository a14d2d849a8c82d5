-- The names of other crates and of this crate's specs that more than one of its proofs stands on.
pub use Rattle.std.proofs.Common.{◌≡◌, ℕ, zero, suc, ◌+◌, ◌-◌, ◌*◌, ◌^◌, ◌<◌, ◌≤◌, List, [], ◌∷◌, ◌++◌, length, get_or, take, drop, Option, Some, None, Result, Ok, Err, refl, sym, ap, subst, ◌∙◌, append_assoc, arith, rules, ◌==◌, ◌⊎◌, inl, inr, false, ◌≢◌, IfSome, Bor, is_some, option_copied, ◌↔◌, add-one}
pub use Rattle.std.proofs.lemmas.List.{append-nil, length-append, take_at, drop_at, get_or_default, length-map, length-take, length-drop, take-append-drop, take_more, take_more_same, same_from_push, at_drop_more, length-take-le, drop-replicate}
pub use Rattle.std.specs.Int.{w16, w64, to_be_bytes}
pub use Rattle.std.specs.List.{AllByRecursion}
unfoldable pub use Rattle.sha2.specs.Sha256.{sha256, digest_bytes}
pub use Rattle.ids_frame.specs.{IsByte, AreBytes, MessageParts, FitsMessage, flag, header, spelling, joined, BeginsWith, Begins, Begun}
pub use Rattle.frame_auth.specs.{hmac, with_signature, bare, seal_of, sealed, joined_sealed, Copies, IsPlain, ArePlain, IsSealedWith, HasNoSeal, HasOtherCounter, Moves, marked, sealed_bytes, CanUnmark, unmarked, StopsBehind, CannotRead, BeginsSo, StopsSeal, StopsUnseal, Gives, GivesSealed, GivesUnsealed, SealFault, UnsealFault, AreOf, IsOutOfOrder, AnswersInOrder, sealed_from, masked}
pub use Rattle.std.proofs.lemmas.Grind.{common_steps, same_number_lists, flat_map-append}
pub use Rattle.std.proofs.lemmas.List.Elements.{All-append, All-take, All-from_recursion, recursion_from_All}
pub use Rattle.std.proofs.lemmas.Nat.{and_le_l, and_le_r, le_or_l, le_or_r, be_bytes_8}
pub use Rattle.std.proofs.lemmas.Result.{err_from_is_err_and}
