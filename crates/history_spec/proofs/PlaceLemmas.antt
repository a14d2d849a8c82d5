-- What stands in a list.
use Rattle.history_spec.proofs.Names.{◌≡◌, ℕ, zero, suc, ◌+◌, ◌<◌, length, refl, Bool, true, List, [], ◌∷◌, ◌++◌, filter, inl, inr, ap, arith, cases_eq, StandsIn, times, cond_both, some, some-injective, get_elem?, take}

module _ {A : Type 0} where
  -- it stands in a longer list
  pub stands_left : (xs ys : List A) (x : A) → StandsIn xs x → StandsIn (xs ++ ys) x
  stands_left [] ys x (place, at) = cc
  stands_left (y ∷ xs) ys x (zero, at) = (zero, at)
  stands_left (y ∷ xs) ys x (suc place, at) = let rest = stands_left xs ys x (place, at) in (suc rest.0, rest.1)

  pub at_right : (xs ys : List A) (place there : ℕ) (x : A) → there ≡ length xs + place → get_elem? ys place ≡ some x
      → get_elem? (xs ++ ys) there ≡ some x
  at_right [] ys place there x is at = let same : there ≡ place = omega arith in rw same at
  at_right (y ∷ xs) ys place zero x is at = absurd (omega arith)
  at_right (y ∷ xs) ys place (suc there) x is at = at_right xs ys place there x (omega arith) at

  pub stands_right : (xs ys : List A) (x : A) → StandsIn ys x → StandsIn (xs ++ ys) x
  stands_right xs ys x stands = (length xs + stands.0, at_right xs ys stands.0 (length xs + stands.0) x refl stands.1)

  -- and in a first part that is longer than its place
  pub stands_taken : (n : ℕ) (xs : List A) (x : A) (place : ℕ) → get_elem? xs place ≡ some x → place < n → get_elem? (take n xs) place ≡ some x
  stands_taken n [] x place at less = cc
  stands_taken zero (y ∷ xs) x place at less = absurd (omega arith)
  stands_taken (suc n) (y ∷ xs) x zero at less = at
  stands_taken (suc n) (y ∷ xs) x (suc place) at less = stands_taken n xs x place at (omega arith)

  -- and among what a test keeps
  pub stands_kept : (test : A → Bool) (xs : List A) (x : A) → StandsIn xs x → test x ≡ true → StandsIn (filter test xs) x
  stands_kept test [] x (place, at) passes = cc
  stands_kept test (y ∷ xs) x (zero, at) passes = rw (ap test (some-injective y x at), passes) (0, at)
  stands_kept test (y ∷ xs) x (suc place, at) passes =
      let rest = stands_kept test xs x (place, at) passes in
      cond_both (test y) _ _ (λ zs. StandsIn zs x) (λ _. (suc rest.0, rest.1)) (λ _. rest)

-- a number that is counted stands there
pub stands_where_counted : (x : ℕ) (xs : List ℕ) → 0 < times x xs → StandsIn xs x
stands_where_counted x [] some_times = absurd (omega arith)
stands_where_counted x (y ∷ xs) some_times = elim (cases_eq y x) [
  | inl is ↦ (0, ap some is)
  | inr other ↦ let rest = stands_where_counted x xs (grind arith) in (suc rest.0, rest.1)
]
