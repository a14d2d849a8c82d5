-- What stands in a list: its place, how often it is counted, and facts of all that stands there.
use Rattle.trace_text.proofs.Names.{◌≡◌, ℕ, zero, suc, ◌<◌, List, [], ◌∷◌, length, map, get_or, refl, sym, ap, subst, arith, AllByRecursion, flat_map, replicate, eq-eqb, StandsIn, times, stands_left, stands_right, common_steps, All-from_recursion}
use mathlib.Core.Option.{some, some-injective}
use lib.ListN.{get_elem?}

-- a number that stands there is counted
pub stands_counted : (x : ℕ) (xs : List ℕ) → StandsIn xs x → 0 < times x xs
stands_counted x [] (place, at) = cc
stands_counted x (y ∷ xs) (zero, at) = rw (eq-eqb y x (some-injective y x at)) (omega arith)
stands_counted x (y ∷ xs) (suc place, at) = omega (arith, stands_counted x xs (place, at))

-- at each place of a list of one thing, and at any other, stands that thing
pub same_replicate : {A : Type 0} (n i : ℕ) (x : A) → get_or (replicate n x) i x ≡ x
same_replicate n i x = grind (arith, common_steps)

module _ {A : Type 0} where
  -- a place with an element is one of the list
  pub stands_at : (xs : List A) (i : ℕ) (x : A) → get_elem? xs i ≡ some x → (i < length xs) × (get_or xs i x ≡ x)
  stands_at [] i x at = cc
  stands_at (y ∷ xs) zero x at = (omega arith, some-injective y x at)
  stands_at (y ∷ xs) (suc i) x at = let rest = stands_at xs i x at in (omega (arith, rest.0), rest.1)

  -- a fact of all elements holds of each, and one of each of all
  pub all_stands : (P : A → Type 0) (xs : List A) (x : A) → AllByRecursion P xs → StandsIn xs x → P x
  all_stands P xs x all (place, at) = let here = stands_at xs place x at in subst P here.1 (All-from_recursion P xs all place x here.0)

  pub stands_all : (P : A → Type 0) (xs : List A) → ((x : A) → StandsIn xs x → P x) → AllByRecursion P xs
  stands_all P [] each = tt
  stands_all P (x ∷ xs) each = (each x (0, refl), stands_all P xs (λ y at. each y (suc at.0, at.1)))

  module _ {B : Type 0} where
    -- what a function gives stands among what it gives for all
    pub stands_map : (f : A → B) (xs : List A) (x : A) → StandsIn xs x → StandsIn (map f xs) (f x)
    stands_map f [] x (place, at) = cc
    stands_map f (y ∷ xs) x (zero, at) = (0, ap (λ z. some (f z)) (some-injective y x at))
    stands_map f (y ∷ xs) x (suc place, at) = let rest = stands_map f xs x (place, at) in (suc rest.0, rest.1)

    pub stands_flat_map : (f : A → List B) (xs : List A) (x : A) (y : B) → StandsIn xs x → StandsIn (f x) y
        → StandsIn (flat_map f xs) y
    stands_flat_map f [] x y (place, at) stands = cc
    stands_flat_map f (z ∷ xs) x y (zero, at) stands =
        stands_left (f z) (flat_map f xs) y (subst (λ u. StandsIn (f u) y) (sym (some-injective z x at)) stands)
    stands_flat_map f (z ∷ xs) x y (suc place, at) stands =
        stands_right (f z) (flat_map f xs) y (stands_flat_map f xs x y (place, at) stands)
