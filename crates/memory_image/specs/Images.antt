-- The image of a memory: its records, one after the other, each number with its high byte first.
use Rattle.std.specs.Prelude.{◌≡◌, ◌≢◌, ℕ, ◌^◌, ◌<◌, ◌≤◌, ◌∷◌, [], ◌++◌, List, flat_map, length, Option, Some, None, IfSome}
use Rattle.std.specs.Int.{w16, w64, to_be_bytes}
use Rattle.std.specs.List.{All, AllPairs}
use Rattle.ids_frame.specs.Bytes.{AreBytes}
use Rattle.ids_types.specs.MemoryRow.{Row}
use Rattle.ids_types.specs.declared.names.Stamp.{Stamp}

-- what an image has of a record, where the flag and the number tell its timestamp
pub record Fields : Type 0 where
  pub event : ℕ
  pub id : ℕ
  pub sensor : ℕ
  pub occurrences : ℕ
  pub first : ℕ
  pub last : ℕ
  pub flag : ℕ
  pub number : ℕ
  pub context : List ℕ

-- the fields of these values
abbrev pub fields : (event id sensor occurrences first last flag number : ℕ) → List ℕ → Fields
fields event id sensor occurrences first last flag number context =
    record { event = event; id = id; sensor = sensor; occurrences = occurrences; first = first; last = last; flag = flag; number = number; context = context }

-- fields, one after the other
abbrev pub fields_bytes : Fields → List ℕ
fields_bytes f =
    to_be_bytes w16 f.event ++ (to_be_bytes w16 f.id ++ (f.sensor ∷ [] ++ (to_be_bytes w16 f.occurrences
    ++ (to_be_bytes w64 f.first ++ (to_be_bytes w64 f.last ++ (f.flag ∷ to_be_bytes w64 f.number
    ++ (to_be_bytes w16 (length f.context) ++ f.context)))))))

-- one where there is a timestamp
abbrev pub flag_of : Option Stamp → ℕ
flag_of None = 0
flag_of (Some stamp) = 1

-- the timestamp, or 0
abbrev pub number_of : Option Stamp → ℕ
number_of None = 0
number_of (Some stamp) = stamp.0

-- the fields of a record
abbrev pub fields_of : Row → Fields
fields_of row =
    fields row.key.event.0 row.key.id row.key.sensor row.occurrences row.first row.last (flag_of row.stamp) (number_of row.stamp) row.context

-- a record's part of an image
abbrev pub row_bytes : Row → List ℕ
row_bytes row = fields_bytes (fields_of row)

-- the records, joined
abbrev pub joined : List Row → List ℕ
joined rows = flat_map row_bytes rows

-- an image can say the record
pub record IsKeepable (row : Row) : Type 0 where
  pub event : row.key.event.0 ≤ 255
  pub id : row.key.id < 2 ^ 16
  pub sensor : row.key.sensor ≤ 63
  pub occurs : 1 ≤ row.occurrences
  pub occurrences : row.occurrences < 2 ^ 16
  pub order : row.first ≤ row.last
  pub last : row.last ≤ 2 ^ 62
  pub stamp : IfSome row.stamp (λ stamp. stamp.0 < 2 ^ 64)
  pub size : length row.context ≤ 1024
  pub context : AreBytes row.context

-- the two are of different events
abbrev pub Differ : Row → Row → Type 0
Differ a b = a.key.event.0 ≢ b.key.event.0

-- an image can say the records
pub record AreKeepable (rows : List Row) : Type 0 where
  pub each : All IsKeepable rows
  pub differ : AllPairs Differ rows
  pub few : length rows ≤ 256

-- the image is that of these records
pub record IsImageOf (rows : List Row) (image : List ℕ) : Type 0 where
  pub keepable : AreKeepable rows
  pub whole : image ≡ joined rows
