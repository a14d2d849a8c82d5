-- A record of the event memory.
use Rattle.std.specs.Prelude.{ℕ, List, Option}
use Rattle.ids_types.specs.declared.key.Key.{Key}
use Rattle.ids_types.specs.declared.names.Stamp.{Stamp}

-- a record: the key of its event, how often it occurred, the ticks of its first and last item, and the last
-- item's timestamp and context data
pub record Row : Type 0 where
  pub key : Key
  pub occurrences : ℕ
  pub first : ℕ
  pub last : ℕ
  pub stamp : Option Stamp
  pub context : List ℕ
