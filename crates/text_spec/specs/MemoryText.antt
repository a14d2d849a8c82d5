-- The text of the event memory: a line for each record, the one stored last at the end.
-- Source: the text formats of this project (docs/FORMATS.md).
use Rattle.std.specs.Prelude.{◌∷◌}
use Rattle.text_spec.specs.Below.{ℕ, List, [], map, codes}
use Rattle.ids_types.specs.MemoryRow.{Row}
use Rattle.text_spec.specs.Fields.{the, a_number, a_stamp, any_bytes, put, line_with}
use Rattle.text_spec.specs.Words.{text_of}

-- the line `S INDEX ID SENSOR OCCURRENCES FIRST LAST STAMP CONTEXT` of a record, without its line feed
abbrev pub row_line : Row → List ℕ
row_line row =
    line_with (put (the (codes "S")) tt ∷ put a_number row.key.event.0 ∷ put a_number row.key.id ∷ put a_number row.key.sensor
    ∷ put a_number row.occurrences ∷ put a_number row.first ∷ put a_number row.last ∷ put a_stamp row.stamp
    ∷ put any_bytes row.context ∷ [])

-- the lines of records
abbrev pub memory_text : List Row → List ℕ
memory_text rows = text_of (map row_line rows)
