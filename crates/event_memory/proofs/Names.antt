-- The names of other crates that several files of this crate cite.
pub use Rattle.chain_spec.specs.Memory.{Stored, event_of, events_of, has_event, newest_rows, renews, row_of, row_over, run_of, since}
pub use Rattle.ids_types.specs.MemoryRow.{Row}
pub use Rattle.std.proofs.Common.{◌≡◌, ◌≤◌, ◌<◌, ℕ, zero, suc, List, [], ◌∷◌, ◌++◌, length, take, drop, get_or, slice_set, refl, ap, arith, take_all, ◌+◌, ◌==◌, Bool, true, filter, map, Some, None, if◌then◌else◌, inl, inr, eqb-true, false, not, Option, sym, rules, drop_of_length-le, eq-eqb, ◌&&◌, nat_le, nat_lt, subst, reverse}
pub use Rattle.std.proofs.Math.Seq.{take-nil}
pub use Rattle.std.proofs.lemmas.Bool.{cases_Bool, and_parts}
pub use Rattle.std.proofs.lemmas.List.{get_or-take, take-append-le, take-map, take-take, append-nil, length-map, length-take, length-reverse}
pub use Rattle.std.proofs.lemmas.List.Edits.{length-remove}
pub use Rattle.std.specs.List.{remove, find, list_any, position_or_len}
pub use Rattle.std.specs.Set.{remove_key}
pub use Rattle.std.proofs.lemmas.Grind.{common_steps}
pub use Rattle.event_memory.specs.Held.{added, after_adding, no_row, Held, Stands, after_storing, after_storing_at, begun, is_of, told}
