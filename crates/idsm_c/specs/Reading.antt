-- What reading a manager answers, by what a handle has.
use Rattle.std.specs.Prelude.{◌≡◌, ℕ, List, Option, Some, None}
use Rattle.ids_types.specs.declared.names.Stamp.{Stamp}
use Rattle.idsm_api.specs.{code_of, RoleRow}
use Rattle.idsm_api.specs.declared.answer.Answer.TheVariants.{Unset}
use Rattle.idsm_api.specs.declared.number.NumberAnswer.{NumberAnswer}
use Rattle.idsm_api.specs.declared.reading.RowAnswer.{RowAnswer}
use Rattle.idsm_api.specs.declared.reading.RowTold.{RowTold}
use Rattle.idsm_api.specs.declared.role.Role.{Role}
use Rattle.idsm_c.specs.declared.reading.Row.{Row}

-- the number of a timestamp, 0 where there is none
abbrev pub stamp_number : Option Stamp → ℕ
stamp_number None = 0
stamp_number (Some stamp) = stamp.0

-- 1 where there is a timestamp, and else 0
abbrev pub stamp_flag : Option Stamp → ℕ
stamp_flag None = 0
stamp_flag (Some stamp) = 1

-- what a record told
abbrev pub row_of : Option RowTold → Row
row_of None = record { first = 0; last = 0; stamp = 0; bytes = 0; event = 0; id = 0; occurrences = 0; sensor = 0; has_stamp = 0 }
row_of (Some row) = record {
  first = row.first;
  last = row.last;
  stamp = stamp_number row.stamp;
  bytes = row.bytes;
  event = row.key.event.0;
  id = row.key.id;
  occurrences = row.occurrences;
  sensor = row.key.sensor;
  has_stamp = stamp_flag row.stamp;
}

-- a number of what a handle has, which is not changed; 0 where it has nothing, which is unset
abbrev pub HandleTells : (Role → NumberAnswer → Type 0) → Option Role → ℕ → ℕ → Option Role → Type 0
HandleTells tells None code number new = (code ≡ code_of Unset) × (number ≡ 0) × (new ≡ None)
HandleTells tells (Some role) code number new =
    (told : NumberAnswer) × (code ≡ code_of told.answer) × (number ≡ told.number) × (new ≡ Some role) × tells role told

-- a record of the event memory of what a handle has, which is not changed
abbrev pub HandleRow : ℕ → Option Role → List ℕ → ℕ → Row → Option Role → List ℕ → Type 0
HandleRow i None buffer code row new after = (code ≡ code_of Unset) × (row ≡ row_of None) × (new ≡ None) × (after ≡ buffer)
HandleRow i (Some role) buffer code row new after =
    (told : RowAnswer) × (code ≡ code_of told.answer) × (row ≡ row_of told.row) × (new ≡ Some role) × RoleRow role i buffer told after
