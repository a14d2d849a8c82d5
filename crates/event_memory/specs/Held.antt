-- The records that a memory holds, what an item makes of them, and which they are of all items that were stored.
use Rattle.std.specs.Prelude.{◌≡◌, ℕ, ◌+◌, ◌==◌, ◌∷◌, [], List, Bool, Option, Some, None, min, slice_index_or, take}
use Rattle.std.specs.List.{position, remove}
use Rattle.chain_spec.specs.Memory.{Stored, event_of, newest_rows, row_over}
use Rattle.ids_types.specs.MemoryRow.{Row}
use Rattle.ids_types.specs.declared.key.Key.{Key}
use Rattle.ids_types.specs.declared.names.Stamp.{Stamp}

-- how many records there may be, and the records, the one stored last first
pub record Held : Type 0 where
  pub room : ℕ
  pub rows : List Row

-- no records yet
abbrev pub no_rows : ℕ → Held
no_rows room = record { room = room; rows = [] }

-- what stands where there is no record
abbrev pub no_row : Row
no_row = row_over 0 []

-- the record is of this event
abbrev pub is_of : ℕ → Row → Bool
is_of event row = row.key.event.0 == event

-- an item as it is stored
abbrev pub stored : ℕ → Key → ℕ → Option Stamp → List ℕ → Stored
stored tick key count stamp context =
    record { tick = tick; key = key; count = count; stamp = stamp; context = context }

-- a record whose last item is this one
abbrev pub told : Stored → ℕ → ℕ → Row
told item occurrences first = record {
  key = item.key;
  occurrences = occurrences;
  first = first;
  last = item.tick;
  stamp = item.stamp;
  context = item.context;
}

-- the record that an item begins
abbrev pub begun : Stored → Row
begun item = told item item.count item.tick

-- the record with an item more
abbrev pub added : Stored → Row → Row
added item row = told item (min (row.occurrences + item.count) 65535) row.first

-- an item began a record: it is the newest, and the oldest goes where there is no more room
abbrev pub after_beginning : Stored → Held → Held
after_beginning item memory = record { room = memory.room; rows = take memory.room (begun item ∷ memory.rows) }

-- an item was added to the record at a place, which is then the newest
abbrev pub after_adding : Stored → ℕ → Held → Held
after_adding item place memory = record {
  room = memory.room;
  rows = added item (slice_index_or memory.rows place no_row) ∷ remove memory.rows place;
}

-- an item was added to the record of its event, if there is one at a place, or began a record
abbrev pub after_storing_at : Stored → Held → Option ℕ → Held
after_storing_at item memory None = after_beginning item memory
after_storing_at item memory (Some place) = after_adding item place memory

-- an item was stored
abbrev pub after_storing : Stored → Held → Held
after_storing item memory = after_storing_at item memory (position (is_of (event_of item)) memory.rows)

-- the records are the newest of these items, as many as there may be
abbrev pub Stands : Held → List Stored → Type 0
Stands memory items = memory.rows ≡ newest_rows memory.room items
