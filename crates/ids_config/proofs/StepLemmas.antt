-- Searches that found no fault.
use Rattle.std.proofs.Common.{◌≡◌, ℕ, suc, List, [], ◌∷◌, Bool, true, Ok, arith}
use Rattle.std.specs.Prelude.{Result, ⊤}
use Rattle.std.specs.List.{AllByRecursion}
use Rattle.ids_config.specs.declared.fault.ConfigPlace.{ConfigPlace}
use Rattle.ids_config.specs.{◌>>◌, asks, in_range, at, each, IsWithin}

-- both searches found none
pub both_ok : {A E : Type 0} (one : Result ⊤ E) (next : Result A E) (x : A)
    → one >> next ≡ Ok x → (one ≡ Ok tt) × (next ≡ Ok x)
both_ok one next x e = grind (arith, e)

-- the condition holds
pub asks_ok : (number : ℕ) (holds : Bool) → asks number holds ≡ Ok tt → holds ≡ true
asks_ok number holds e = grind (arith, e)

-- the condition holds, and the searches after it found no fault
pub asked : {A : Type 0} (number : ℕ) (holds : Bool) (next : Result A ℕ) (x : A)
    → asks number holds >> next ≡ Ok x → (holds ≡ true) × (next ≡ Ok x)
asked number holds next x e = grind (arith, e)

-- there is no fault within the place
pub at_ok : (place : ConfigPlace) (found : Result ⊤ ℕ) → at place found ≡ Ok tt → found ≡ Ok tt
at_ok place found e = grind (arith, e)

-- the number is in the range
pub in_range_ok : (number low high n : ℕ) → in_range number low high n ≡ Ok tt
    → IsWithin low high n
in_range_ok number low high n e = grind (arith, e)

-- each element was searched in vain
pub each_ok : {A E : Type 0} (P : A → Type 0) (search_at : ℕ → A → Result ⊤ E) (index : ℕ)
    (xs : List A) → ((i : ℕ) (x : A) → search_at i x ≡ Ok tt → P x)
    → each search_at index xs ≡ Ok tt → AllByRecursion P xs
each_ok P search_at index [] holds e = tt
each_ok P search_at index (x ∷ xs) holds e = grind (arith, e, holds index x, each_ok P search_at (suc index) xs holds)
