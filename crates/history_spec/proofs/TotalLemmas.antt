-- Tickets by owners: where each owner has the tickets that are its own, each ticket is had once.
use Rattle.history_spec.proofs.Names.{◌≡◌, ℕ, zero, suc, ◌+◌, ◌-◌, ◌≤◌, ◌<◌, ◌==◌, ◌≢◌, nat_lt, if◌then◌else◌, List, [], ◌∷◌, ◌++◌, length, get_or, refl, ◌∙◌, arith, Entry, claims_of, entries_by, times, once_below, claims_by, common_steps}

-- a ticket is its claimant's, once
claimed : (x owner ticket : ℕ) (claimants : List ℕ) → times x (claims_by owner ticket claimants)
    ≡ (if nat_lt x ticket then 0 else if owner == get_or claimants (x - ticket) 0 then once_below x (ticket + length claimants) else 0)
claimed x owner ticket [] = grind (arith, common_steps)
claimed x owner ticket (c ∷ claimants) = grind (arith, common_steps, claimed x owner (suc ticket) claimants)

pub times-append : (x : ℕ) (xs ys : List ℕ) → times x (xs ++ ys) ≡ times x xs + times x ys
times-append x [] ys = omega arith
times-append x (y ∷ xs) ys = omega (arith, times-append x xs ys)

-- a claim that one owner alone may have
of_one : (i x owner : ℕ) (es : List (Entry (List ℕ))) → ((o : ℕ) → o ≢ owner → times x (claims_of i (entries_by o es)) ≡ 0)
    → times x (claims_of i es) ≡ times x (claims_of i (entries_by owner es))
of_one i x owner [] none = refl
of_one i x owner (e ∷ es) none =
    grind (arith, times-append, of_one i x owner es (λ o other. grind (arith, times-append, none o other)), none e.caller)

-- how many of the numbers are below another one
abbrev pub below : ℕ → List ℕ → ℕ
below n [] = 0
below n (x ∷ xs) = once_below x n + below n xs

pub below_more : (n : ℕ) (xs : List ℕ) → below (suc n) xs ≡ times n xs + below n xs
below_more n [] = refl
below_more n (x ∷ xs) = let rest = below_more n xs in grind (arith, rest)

pub none_below : (xs : List ℕ) → below 0 xs ≡ 0
none_below [] = refl
none_below (x ∷ xs) = grind (arith, none_below xs)

each_below : (n : ℕ) (xs : List ℕ) → ((x : ℕ) → x < n → times x xs ≡ 1) → below n xs ≡ n
each_below zero xs each = none_below xs
each_below (suc n) xs each = grind (arith, below_more n xs, each n, each_below n xs (λ x less. each x (omega arith)))

pub all_below : (n : ℕ) (xs : List ℕ) → ((x : ℕ) → n ≤ x → times x xs ≡ 0) → below n xs ≡ length xs
all_below n [] none = refl
all_below n (x ∷ xs) none = grind (arith, all_below n xs (λ y more. omega (arith, none y more)), none x)

-- where just the numbers below n stand in a list, each once, it has n of them
pub as_many : (n : ℕ) (xs : List ℕ) → ((x : ℕ) → times x xs ≡ once_below x n) → length xs ≡ n
as_many n xs once =
    omega (arith, all_below n xs (λ x more. grind (arith, once x)), each_below n xs (λ x less. grind (arith, once x)))

module _ (i : ℕ) (es : List (Entry (List ℕ))) (claimants : List ℕ)
    (same : (c : ℕ) → claims_of i (entries_by c es) ≡ claims_by c 0 claimants) where
  -- each number below how many claimants there are is a claim, once
  pub counted : (x : ℕ) → times x (claims_of i es) ≡ once_below x (length claimants)
  counted x =
      let owner = get_or claimants (x - 0) 0 in
      of_one i x owner es (λ o other. let its = claimed x o 0 claimants in rw (same o) (grind (arith, its, other)))
      ∙ rw (same owner) (let its = claimed x owner 0 claimants in grind (arith, its))

  -- and each number below how many claims there are
  pub each_claim_once : (x : ℕ) → times x (claims_of i es) ≡ once_below x (length (claims_of i es))
  each_claim_once x = rw (as_many (length claimants) (claims_of i es) counted) (counted x)
