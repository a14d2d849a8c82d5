-- Elements of a list by their place.
use Rattle.permit_ring.proofs.Names.{◌≡◌, ℕ, zero, suc, ◌<◌, ◌⊎◌, List, [], ◌∷◌, ◌++◌, length, refl, inl, arith, get_elem?, some}

module _ {A : Type 0} where
  -- a place with an element is one of the list
  pub at_length : (l : List A) (i : ℕ) (a : A) → get_elem? l i ≡ some a → i < length l
  at_length (x ∷ l) (suc i) a e = omega (arith, at_length l i a e)
  at_length _ _ a e = grind arith

  -- and a place of the list has an element
  pub there : (l : List A) (i : ℕ) → i < length l → (a : A) × (get_elem? l i ≡ some a)
  there [] i h = absurd (omega arith)
  there (x ∷ l) zero h = (x, refl)
  there (x ∷ l) (suc i) h = there l i (omega arith)

  -- an element of a list with one more stands in the list, or is the last
  pub at_end : (l : List A) (a b : A) (j : ℕ) → get_elem? (l ++ a ∷ []) j ≡ some b → (get_elem? l j ≡ some b) ⊎ ((j ≡ length l) × (a ≡ b))
  at_end [] a b j e = grind arith
  at_end (x ∷ l) a b zero e = inl e
  at_end (x ∷ l) a b (suc j) e = grind (arith, at_end l a b j e)
