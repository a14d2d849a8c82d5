-- What contracts see of a memory, and what holds of its fields.
use Rattle.std.specs.Prelude.{◌≤◌, length, take}
use Rattle.event_memory.specs.Held.{Held}
use Rattle.event_memory.specs.declared.memory.Memory.TheInside.{Inside}

-- the records in use, and room for as many as there are slots
abbrev pub held_in : Inside → Held
held_in memory = record { room = length memory.slots.items; rows = take memory.used memory.slots.items }

-- there are slots for the records in use, and few
pub record IsSound (memory : Inside) : Type 0 where
  pub used : memory.used ≤ length memory.slots.items
  pub few : length memory.slots.items ≤ 256
