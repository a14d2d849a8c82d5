pub mod Carries
pub mod Fates
pub mod Internals
pub mod MemoryRow
pub mod ModeNames
pub mod Names
pub mod Output
pub mod Plain
pub mod Rows
pub mod Turns
pub mod Views
pub use Rattle.ids_types.specs.Carries.{carried_by, act_by, entry_by}
pub use Rattle.ids_types.specs.Fates.{lost, Fate, accepted, start_of, end_of, FatesFrom, end_from, claims_got, AreAllDecided}
pub use Rattle.ids_types.specs.Internals.{is_that, is_reported}
pub use Rattle.ids_types.specs.Names.{Carried, Absent, Kept, Missing, Act, Report, State, SetMode, Entry, TurnHead, Stamp, EntryRow, RowKind, Bare, Holding, Lacking, StateTo, ModeTo, TurnRow}
pub use Rattle.ids_types.specs.Output.{room_of, empty_output, without_messages, has_put, has_ended, has_sent}
pub use Rattle.ids_types.specs.Plain.{plain_carried, plain_entry, carried_bytes, act_bytes, kept_bytes}
pub use Rattle.ids_types.specs.Rows.{stamp_before, bytes_at, context_of, act_of, entry_of, turn_of, stamp_numbers, context_numbers, kind_of, act_numbers, own_numbers, row_by, row_of, KindWithin, EntryWithin, RowWithin, Lies}
pub use Rattle.ids_types.specs.Turns.{Turn, Room, begun, extended, with_entry, turn_at, entry_at, entries_of, context_bytes, HasRoom, room_after, wider_room, emptied}
