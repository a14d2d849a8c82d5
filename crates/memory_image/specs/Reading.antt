-- Reading an image from left to right.
use Rattle.std.specs.Prelude.{◌≡◌, ◌++◌, ◌^◌, ◌≤◌, ℕ, List, length, Option, Some, None, ◌<◌, ◌∷◌, Bool, true, false}
use Rattle.std.specs.Int.{w16, w64}
use Rattle.ids_frame.specs.{AreBytes, Read, ◌>>=◌, byte_at, bytes_at, number_at}
use Rattle.ids_types.specs.MemoryRow.{Row}
use Rattle.ids_types.specs.declared.names.Stamp.{Stamp}
use Rattle.memory_image.specs.Images.{Fields, IsKeepable, fields, fields_of, flag_of, number_of, row_bytes}
use Rattle.memory_image.specs.declared.fields.Fields.{Fields as Lent}
use Rattle.std.specs.List.{position}
use Rattle.chain_spec.specs.Memory.{Stored}
use Rattle.event_memory.specs.Held.{Held, Stands, is_of}

-- fields, their context as bytes
abbrev pub plain_fields : Lent → Fields
plain_fields f = fields f.event f.id f.sensor f.occurrences f.first f.last f.flag f.number f.context.now

-- the fields at the front of bytes, and the bytes after them
unfoldable pub fields_at : List ℕ → Read Fields
fields_at bytes = do
  event ← number_at w16 bytes
  id ← number_at w16 event.1
  sensor ← byte_at id.1
  occurrences ← number_at w16 sensor.1
  first ← number_at w64 occurrences.1
  last ← number_at w64 first.1
  flag ← byte_at last.1
  number ← number_at w64 flag.1
  size ← number_at w16 number.1
  context ← bytes_at size.0 size.1
  Some (fields event.0 id.0 sensor.0 occurrences.0 first.0 last.0 flag.0 number.0 context.0, context.1)

-- the fields are within their ranges
abbrev pub InRange : Fields → Type 0
InRange f =
    (f.event ≤ 255) × (f.sensor ≤ 63) × (1 ≤ f.occurrences) × (f.first ≤ f.last) × (f.last ≤ 2 ^ 62) × (length f.context ≤ 1024)

-- the timestamp that a flag and a number tell, if they tell one
abbrev pub TellStamp : ℕ → ℕ → Option (Option Stamp) → Type 0
TellStamp flag number (Some stamp) = (flag ≡ flag_of stamp) × (number ≡ number_of stamp)
TellStamp flag number None = (stamp : Option Stamp) → flag ≡ flag_of stamp → number ≡ number_of stamp → ⊥

-- the record that fields tell, if they tell one
abbrev pub TellRow : Fields → Option Row → Type 0
TellRow f (Some row) = (f ≡ fields_of row) × (AreBytes f.context → IsKeepable row)
TellRow f None = (row : Row) → IsKeepable row → f ≡ fields_of row → ⊥

-- the record with which bytes begin, and what is after it, if they begin with one
abbrev pub Begins : List ℕ → Option (Row × List ℕ) → Type 0
Begins bytes (Some front) = IsKeepable front.0 × (bytes ≡ row_bytes front.0 ++ front.1)
Begins bytes None = (row : Row) (rest : List ℕ) → IsKeepable row → bytes ≡ row_bytes row ++ rest → ⊥

-- ---- a record that is added to a memory

-- none of the records is of this one's event, and there is room for one more
pub record HasPlace (memory : Held) (row : Row) : Type 0 where
  pub alone : position (is_of row.key.event.0) memory.rows ≡ None
  pub room : length memory.rows < memory.room

-- the record was added as the newest; the memory is again one of items that were stored
pub record AddsRow (old new : Held) (row : Row) : Type 0 where
  pub place : HasPlace old row
  pub room : new.room ≡ old.room
  pub rows : new.rows ≡ row ∷ old.rows
  pub items : List Stored
  pub stands : Stands new items

-- the record was added, or there is no place for it
abbrev pub Adds : Held → Held → Row → Bool → Type 0
Adds old new row true = AddsRow old new row
Adds old new row false = HasPlace old row → ⊥
