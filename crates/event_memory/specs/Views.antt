-- What contracts see of a row, of an item that is put into a slot, and of a slot.
use Rattle.std.specs.Prelude.{◌≤◌, vec_capacity}
use Rattle.chain_spec.specs.Memory.{Stored}
use Rattle.ids_types.specs.MemoryRow.{Row}
use Rattle.event_memory.specs.Held.{stored}
use Rattle.event_memory.specs.declared.row.Row.{Row as Lent}
use Rattle.event_memory.specs.declared.slot.Item.{Item}
use Rattle.event_memory.specs.declared.slot.Slot.TheInside.{Inside}

-- the record of a row, its context data as bytes
abbrev pub plain_row : Lent → Row
plain_row row = record {
  key = row.key;
  occurrences = row.occurrences;
  first = row.first;
  last = row.last;
  stamp = row.stamp;
  context = row.context.now;
}

-- the item as it is stored
abbrev pub plain_item : Item → Stored
plain_item item = stored item.tick item.key item.count item.stamp item.context.now

-- the record in a slot
abbrev pub row_held : Inside → Row
row_held slot = record {
  key = slot.key;
  occurrences = slot.occurrences;
  first = slot.first;
  last = slot.last;
  stamp = slot.stamp;
  context = slot.context.items;
}

-- there is room for the longest context data
abbrev pub HasRoom : Inside → Type 0
HasRoom slot = 1024 ≤ vec_capacity slot.context
