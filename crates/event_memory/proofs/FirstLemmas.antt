-- The elements of a list before the first one that passes a test, and the list without that one.
use Rattle.event_memory.proofs.Names.{cases_Bool, find, list_any, position_or_len, remove, ◌≡◌, ◌+◌, ◌==◌, ℕ, zero, suc, Bool, true, List, [], ◌∷◌, filter, map, take, Some, None, if◌then◌else◌, refl, arith, inl, inr, eqb-true, take-map, take-take, remove_key, common_steps}

-- the elements before the first one that passes
abbrev pub until : {A : Type 0} → (A → Bool) → List A → List A
until test [] = []
until test (x ∷ xs) = if test x then [] else x ∷ until test xs

-- removing at the first place that passes
pub removed : {A : Type 0} (test : A → Bool) (xs : List A) → remove xs (position_or_len test xs) ≡ remove_key test xs
removed test [] = refl
removed test (x ∷ xs) =
    let one : 1 + position_or_len test xs ≡ suc (position_or_len test xs) = omega arith in
    elim (cases_Bool (test x)) [ inl is ↦ rw is refl | inr is ↦ rw (is, one, removed test xs) refl ]

-- ---- over what numbers are made into, where a number can be told

module _ {B : Type 0} (make : ℕ → B) (n : ℕ) (test : B → Bool) (same : (x : ℕ) → test (make x) ≡ (x == n)) where
  pub find-made : (xs : List ℕ) → find test (map make xs) ≡ (if list_any (λ x. x == n) xs then Some (make n) else None)
  find-made [] = refl
  find-made (x ∷ xs) = grind (arith, common_steps, eqb-true, same, find-made xs)

  -- the first ones, where one is left out
  pub take-made : (k : ℕ) (xs : List ℕ) → take k (remove_key test (map make (take (suc k) xs))) ≡ take k (map make (remove_key (λ x. x == n) xs))
  take-made zero xs = refl
  take-made (suc k) [] = refl
  take-made (suc k) (x ∷ xs) = grind (arith, common_steps, cases_Bool, take-map, take-take, take-made k xs)

-- ---- over the elements that pass another test, where all that passes the first one does

module _ {A : Type 0} (test keeps : A → Bool) (among : (x : A) → test x ≡ true → keeps x ≡ true) where
  pub kept_so : (xs : List A) → (until test (filter keeps xs) ≡ filter keeps (until test xs)) × (remove_key test (filter keeps xs) ≡ filter keeps (remove_key test xs))
  kept_so [] = (refl, refl)
  kept_so (x ∷ xs) = grind (arith, among x, kept_so xs)

-- ---- two tests one after another

pub filter-twice : {A : Type 0} (test : A → Bool) (xs : List A) → filter test (filter test xs) ≡ filter test xs
filter-twice test [] = refl
filter-twice test (x ∷ xs) = grind (arith, filter-twice test xs)

pub filter-swap : {A : Type 0} (one other : A → Bool) (xs : List A) → filter one (filter other xs) ≡ filter other (filter one xs)
filter-swap one other [] = refl
filter-swap one other (x ∷ xs) = grind (arith, filter-swap one other xs)
