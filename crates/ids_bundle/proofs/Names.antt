-- The names of other crates and of this crate's specs that more than one of its proofs stands on.
pub use Rattle.std.proofs.Common.{◌≡◌, ℕ, ◌+◌, ◌*◌, ◌-◌, ◌^◌, ◌<◌, ◌≤◌, ◌⊎◌, Bool, List, [], ◌∷◌, ◌++◌, length, get_or, take, drop, Ok, Err, refl, sym, ap, subst, ◌∙◌, append_assoc, length-append, arith, rules, inl, inr}
pub use Rattle.std.proofs.lemmas.List.{append-nil, take_at, take_rest}
pub use Rattle.std.proofs.lemmas.Grind.{common_steps}
pub use Rattle.std.specs.Int.{w16, to_be_bytes}
pub use Rattle.std.specs.List.{flat_map, AllByRecursion}
pub use Rattle.std.specs.Prelude.{Result, IsTrue, ◌↔◌, nat_lt, if◌then◌else◌}
pub use Rattle.ids_frame.specs.{AreBytes, CauseOf, MessageParts, FitsMessage, joined, AreMessages, IsJoined, spelling, IsByte, messages_of}
pub use Rattle.ids_bundle.specs.Cuts.{IsRun, IsCutFor, IsFullBefore, AreFull, IsPacked}
pub use Rattle.ids_bundle.specs.Units.{Run, Reads, load, all_of, unit, units, FitsUnit, IsUnit, AreSoMany, IsBody, unit_size, IsPart, IsBad}
pub use Rattle.ids_bundle.specs.Packing.{FitsIn, BeginsLong, StopsAt, ArePacked, Packs}
pub use Rattle.ids_frame.proofs.MessageLemmas.{again, read_of, one_message_lem}
pub use Rattle.ids_frame.proofs.DecodeLemmas.{Front, are_bytes, decode_tells}
pub use Rattle.std.proofs.lemmas.List.Elements.{All-drop}
pub use Rattle.std.proofs.lemmas.Bool.{eqb-false, false≢true}
