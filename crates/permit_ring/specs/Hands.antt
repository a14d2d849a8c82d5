-- The slots that the keeper has in hand.
use Rattle.std.specs.Prelude.{◌≡◌, ◌%◌, ◌∷◌, ◌++◌}
use Rattle.permit_ring.specs.Names.{ℕ, suc, List, [], map, replicate, some, get_elem?, Slot, Empty, Offered}

module _ {O D : Type 0} where
  -- slots from ticket t on, each with its place
  abbrev pub hand_from : ℕ → ℕ → List (Slot O D) → List (ℕ × Slot O D)
  hand_from n t [] = []
  hand_from n t (x ∷ xs) = (t % n, x) ∷ hand_from n (suc t) xs

  -- first those that are filled again, then so many empty ones
  abbrev pub filled_then : List O → ℕ → List (Slot O D)
  filled_then ys vacant = map Offered ys ++ replicate vacant Empty

-- each of these values is admitted
abbrev pub AllAdmitted : {O : Type 0} → (O → Type 0) → List O → Type 0
AllAdmitted Admits ys = (j : ℕ) (y : _) → get_elem? ys j ≡ some y → Admits y
