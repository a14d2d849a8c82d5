-- What contracts see of a history and of the walks over it, and what holds of their fields.
use Rattle.std.specs.Prelude.{ℕ, ◌+◌, ◌*◌, ◌≤◌, List, length, map, vec_len, vec_capacity}
use Rattle.std.specs.List.{AllByRecursion}
use Rattle.ids_types.specs.declared.history.History.TheInside.{Inside}
use Rattle.ids_types.specs.declared.walk.EntryWalk.TheInside.{Inside as EntryWalkInside}
use Rattle.ids_types.specs.declared.walk.Walk.TheInside.{Inside as WalkInside}
use Rattle.ids_types.specs.Names.{Entry}
use Rattle.ids_types.specs.Turns.{Turn, Turns}
use Rattle.ids_types.specs.Rows.{entry_of, turn_of, EntryWithin, RowWithin, Lies}

-- the turns of the rows, and the room that is kept for more
abbrev pub turns_of : Inside → Turns
turns_of h = record { turns = map (turn_of h.numbers.items h.bytes.items h.entries.items) h.rows.items; room = record { turns = h.turns_left; entries = h.entries_left; bytes = h.bytes_left } }

-- there is memory for the room left: five numbers for an entry
pub record HasMemory (h : Inside) : Type 0 where
  pub turns_room : vec_len h.rows + h.turns_left ≤ vec_capacity h.rows
  pub entries_room : vec_len h.entries + h.entries_left ≤ vec_capacity h.entries
  pub numbers_few : vec_len h.numbers ≤ 5 * vec_len h.entries
  pub numbers_room : 5 * (vec_len h.entries + h.entries_left) ≤ vec_capacity h.numbers
  pub bytes_room : vec_len h.bytes + h.bytes_left ≤ vec_capacity h.bytes

-- rows lie as they should, and there is memory
pub record IsSound (h : Inside) : Type 0 where
  pub lies : Lies h.numbers.items h.bytes.items h.entries.items h.rows.items
  pub memory : HasMemory h

-- the turns of the rows that are left
abbrev pub turns_left : WalkInside → List Turn
turns_left w = map (turn_of w.numbers.now w.bytes.now w.entries.now) w.rows.now

-- rows point to what is there
pub record IsWalk (w : WalkInside) : Type 0 where
  pub rows : AllByRecursion (RowWithin (length w.entries.now)) w.rows.now
  pub entries : AllByRecursion (EntryWithin w.numbers.now (length w.bytes.now)) w.entries.now

-- the entries of the rows that are left
abbrev pub entries_left : EntryWalkInside → List (Entry (List ℕ))
entries_left w = map (entry_of w.numbers.now w.bytes.now) w.rows.now

-- rows point to what is there
abbrev pub IsEntryWalk : EntryWalkInside → Type 0
IsEntryWalk w = AllByRecursion (EntryWithin w.numbers.now (length w.bytes.now)) w.rows.now
