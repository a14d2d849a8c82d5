-- The names of other crates that several files of this crate cite.
pub use Rattle.filter_chain.proofs.RoomLemmas.{parcel_short, most_grows}
pub use Rattle.filter_chain.proofs.TranscriptLemmas.{newest_first, transcript_more, last_of}
pub use Rattle.ids_config.specs.Parts.{Parts}
pub use Rattle.ids_types.specs.{act_by, entry_by, act_bytes, kept_bytes, plain_entry, Turn}
pub use Rattle.ids_types.specs.Output.{Output, room_of}
pub use Rattle.std.proofs.Common.{◌↔◌, ◌≡◌, ℕ, List, [], ◌∷◌, ◌++◌, reverse, sym, ap, ◌*◌, ◌≤◌, length, map, arith, rules, refl, take, vec_capacity, vec_len}
pub use Rattle.std.proofs.lemmas.Grind.{reverse_onto, common_steps}
pub use Rattle.std.proofs.lemmas.List.{length-map, get_or-map}
pub use Rattle.std.proofs.lemmas.List.Elements.{All-map, recursion_from_All}
pub use Rattle.std.specs.List.{All, AllByRecursion}
pub use Rattle.filter_chain.specs.{FitsAct, FitsTurn, bytes_in, last_tick, IsShort, Sends, handed_of}
pub use Rattle.chain_plain.specs.{turn_with, CanTake, RiseFrom, IsReady, Tells, AreInOrder}
