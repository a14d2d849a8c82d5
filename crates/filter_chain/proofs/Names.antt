-- The names of other crates and of this crate's specs that more than one of its proofs stands on.
pub use Rattle.std.proofs.Common.{◌≡◌, ℕ, ◌+◌, List, [], ◌∷◌, ◌++◌, refl, ap, arith, Option, Some, None, IfSome, ◌*◌, ◌≤◌, length, ◌<◌, reverse, sym, ◌∙◌, length-append, drop, take}
pub use Rattle.ids_types.specs.declared.entry.Entry.{Entry}
pub use Rattle.ids_types.specs.Turns.{Room, Turn, extended, room_after, with_entry}
pub use Rattle.std.specs.List.{All, AllByRecursion, cons_option}
pub use Rattle.std.proofs.lemmas.List.Elements.{All-append, All-from_recursion, recursion_from_All, All-weaker}
pub use Rattle.filter_chain.specs.{IsShort, all_parcels, parcel_of, FitsAct, FitsLargest, FitsTurn, carried_room, context_room, most_sent, Sends, count_of, last_tick, messages_of, newest_tick, Adds, IsTranscript, ends_of, bytes_in, turn_by}
