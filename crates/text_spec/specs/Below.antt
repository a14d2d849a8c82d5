-- The names from std and from the crates below that the definitions of this crate share.
pub use Rattle.std.specs.Prelude.{Bool, Vec, Err, IfErr, IfOk, IfSome, IsTrue, List, None, Ok, OnErr, OnOk, Option, Result, Some, [], bytes_eq, codes, decimal, drop, false, if◌then◌else◌, length, map, min, nat_le, nat_lt, not, option_and_then, option_copied, option_map, replicate, set, slice_index, slice_set, suc, take, true, unwrap_or, vec_capacity, vec_len, zero, ℕ, ⊤, ◌≡◌, ◌≢◌, ◌<◌, ◌≤◌, ◌+◌, ◌-◌, ◌*◌, ◌/◌, ◌%◌, ◌^◌, ◌==◌, ◌&&◌, ◌||◌, ◌∷◌, ◌++◌, ◌⊎◌}
pub use Rattle.std.specs.Borrow.{Bor}
pub use Rattle.std.specs.Char.{is_ascii_digit}
pub use Rattle.std.specs.Int.{byte_at, bytes_high_first, from_be_bytes, is_in_range, to_be_bytes, w64}
pub use Rattle.std.specs.List.{All, AllByRecursion, find, flat_map, join_with_byte, list_all, list_any, slice_split}
pub use Rattle.std.specs.Str.Parse.{digits_value}
pub use Rattle.hex.specs.Hex.{IsBytes, decode_of, encode_lower, lower_digits}
pub use Rattle.ids_config.specs.Parts.{Parts, is_sensor}
pub use Rattle.ids_config.specs.Steps.{asks, ◌>>◌}
pub use Rattle.history_spec.specs.Names.{Absent, Act, Carried, Entry, EventIndex, Kept, Loss, Missing, Mode, Report, SetMode, Stamp, State}
pub use Rattle.history_spec.specs.{Asked, KeepUpFrom, Round, changes, last_tick, lines_at, reports, round_ticks, sets}
pub use Rattle.ids_types.specs.ModeNames.{all_modes, mode_name, mode_named}
pub use Rattle.ids_types.specs.declared.entry.TurnHead.{TurnHead}
pub use Rattle.ids_types.specs.Turns.{Turn, begun, entries_of, extended, with_entry}
