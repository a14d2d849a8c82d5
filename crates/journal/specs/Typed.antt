-- Numbers that fit the types of an entry's fields.
use Rattle.std.specs.Prelude.{ℕ, ◌<◌, ◌^◌, List, ⊤}
use Rattle.text_spec.specs.JournalText.{Carried, Absent, Kept, Missing, Act, Report, State, SetMode, Entry}

-- a class of 8 bits
abbrev pub IsTypedContext : Carried (List ℕ) → Type 0
IsTypedContext Absent = ⊤
IsTypedContext (Kept class claim bytes) = class < 2 ^ 8
IsTypedContext (Missing numbers) = ⊤

-- an event and a count of 16 bits, a state of 8
abbrev pub IsTypedAct : Act (List ℕ) → Type 0
IsTypedAct (Report event count stamp context) = (event.0 < 2 ^ 16) × (count < 2 ^ 16) × IsTypedContext context
IsTypedAct (State state) = state < 2 ^ 8
IsTypedAct (SetMode event mode) = event.0 < 2 ^ 16

-- the numbers of the entry fit their types
pub record IsTyped (entry : Entry (List ℕ)) : Type 0 where
  pub caller_fits : entry.caller < 2 ^ 8
  pub act_fits : IsTypedAct entry.act
