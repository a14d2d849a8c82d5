-- The steps of a search for the first fault.
use Rattle.std.specs.Prelude.{ℕ, suc, ◌^◌, ◌-◌, ◌&&◌, min, List, [], ◌∷◌, Bool, Result, Ok, Err, if◌then◌else◌, nat_le, ⊤}
use Rattle.ids_config.specs.declared.fault.ConfigFault.{ConfigFault}
use Rattle.ids_config.specs.declared.fault.ConfigPlace.{ConfigPlace}

infixr 10 ◌>>◌
-- one search and then the next: the first fault that one of them finds
abbrev pub ◌>>◌ : {A E : Type 0} → Result ⊤ E → Result A E → Result A E
(Ok done) >> next = next
(Err fault) >> next = Err fault

-- the fault of this number, unless the condition holds
abbrev pub asks : ℕ → Bool → Result ⊤ ℕ
asks number holds = if holds then Ok tt else Err number

-- the fault of this number, unless n is in the range
abbrev pub in_range : ℕ → ℕ → ℕ → ℕ → Result ⊤ ℕ
in_range number least most n = asks number (nat_le least n && nat_le n most)

-- what was found within one place
abbrev pub at : ConfigPlace → Result ⊤ ℕ → Result ⊤ ConfigFault
at place (Ok done) = Ok tt
at place (Err number) = Err (record { number = number; place = place })

-- a search of each element, with its index from this one on
abbrev pub each : {A E : Type 0} → (ℕ → A → Result ⊤ E) → ℕ → List A → Result ⊤ E
each search index [] = Ok tt
each search index (x ∷ xs) = search index x >> each search (suc index) xs

-- an index as places name it
abbrev pub capped : ℕ → ℕ
capped index = min index (2 ^ 32 - 1)
