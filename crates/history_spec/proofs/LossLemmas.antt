-- The list of all callers' losses.
use Rattle.history_spec.proofs.Names.{◌≡◌, ℕ, zero, suc, ◌+◌, ◌-◌, ◌<◌, ◌≤◌, ◌⊎◌, ◌==◌, nat_lt, if◌then◌else◌, List, [], ◌∷◌, ◌++◌, map, get_or, refl, inl, inr, arith, append-nil, Loss, losses_from, all_losses, Fate, lost, accepted, FatesFrom, losses_by, StandsIn, KeepUpFrom, LossesFrom, common_steps, some, some-injective, get_elem?, length, take, eq-eqb, fates_of, filter-append, Rest, lost_by, start}
use Rattle.history_spec.proofs.PlaceLemmas.{stands_kept}

module _ (n : ℕ) where
  -- ---- the losses of one caller among all

  in_two : (c d call : ℕ) (fates : List Fate) (behind : List Loss) → losses_by c (losses_from n d call fates ++ behind)
      ≡ (if c == d then losses_from n d call fates else []) ++ losses_by c behind
  in_two c d call [] behind = grind arith
  in_two c d call (lost claimed ∷ fates) behind = grind (arith, in_two c d (suc call) fates behind)
  in_two c d call (accepted ticket ∷ fates) behind = in_two c d (suc call) fates behind

  pub of_caller : (c d : ℕ) (callers : List (List Fate)) → losses_by c (all_losses n d callers)
      ≡ (if nat_lt c d then [] else losses_from n c 0 (get_or callers (c - d) []))
  of_caller c d [] = grind arith
  of_caller c d (fates ∷ callers) = grind (arith, common_steps, of_caller c (suc d) callers, in_two c d 0 fates (all_losses n (suc d) callers), append-nil)

  pub own_losses : (c : ℕ) (callers : List (List Fate)) → losses_by c (all_losses n 0 callers) ≡ losses_from n c 0 (fates_of callers c)
  own_losses c callers = grind (arith, of_caller c 0 callers)

  pub stands_own : (callers : List (List Fate)) (loss : Loss) → StandsIn (all_losses n 0 callers) loss
      → StandsIn (losses_from n loss.caller 0 (fates_of callers loss.caller)) loss
  stands_own callers loss stands = rw (own_losses loss.caller callers)
      at (stands_kept (λ (l : Loss). loss.caller == l.caller) (all_losses n 0 callers) loss stands (eq-eqb loss.caller loss.caller refl))

  -- a loss is a lost call
  pub loss_is : (c call : ℕ) (fates : List Fate) (loss : Loss) → StandsIn (losses_from n c call fates) loss → (place : ℕ) × (claimed : ℕ)
      × (get_elem? fates place ≡ some (lost claimed)) × (loss.call ≡ call + place) × (loss.given ≡ claimed - n)
  loss_is c call [] loss (place, at) = cc
  loss_is c call (lost claimed ∷ fates) loss (zero, at) = rw (← some-injective _ loss at) (0, claimed, refl, omega arith, refl)
  loss_is c call (lost claimed ∷ fates) loss (suc place, at) =
      let rest = loss_is c (suc call) fates loss (place, at) in (suc rest.0, rest.1, rest.2, omega (arith, rest.3), rest.4)
  loss_is c call (accepted ticket ∷ fates) loss stands =
      let rest = loss_is c (suc call) fates loss stands in (suc rest.0, rest.1, rest.2, omega (arith, rest.3), rest.4)

  -- ---- their order

  -- the later a caller's call was lost, the more places had been given back
  pub givens_keep_up : (least c call low : ℕ) (fates : List Fate) → least ≤ low - n → FatesFrom low fates
      → KeepUpFrom least (map (λ (loss : Loss). loss.given) (losses_from n c call fates))
  givens_keep_up least c call low [] le rises = tt
  givens_keep_up least c call low (lost claimed ∷ fates) le rises =
      (omega (arith, rises.0), givens_keep_up (claimed - n) c (suc call) claimed fates (omega arith) rises.1)
  givens_keep_up least c call low (accepted ticket ∷ fates) le rises =
      givens_keep_up least c (suc call) (ticket + 1) fates (omega (arith, rises.0)) rises.1

  -- the losses of a caller, and after them those of the ones after it
  caller_first : (d : ℕ) (behind : List Loss) → ((c call : ℕ) → c ≤ d → LossesFrom c call behind) → (c call from : ℕ) (fates : List Fate)
      → (c < d) ⊎ ((c ≡ d) × (call ≤ from)) → LossesFrom c call (losses_from n d from fates ++ behind)
  caller_first d behind later c call from [] before = later c call (omega (arith, before))
  caller_first d behind later c call from (lost claimed ∷ fates) before =
      (before, caller_first d behind later d (suc from) (suc from) fates (inr (refl, omega arith)))
  caller_first d behind later c call from (accepted ticket ∷ fates) before =
      caller_first d behind later c call (suc from) fates (grind (arith, before))

  pub losses_ordered : (d : ℕ) (callers : List (List Fate)) (c call : ℕ) → (c < d) ⊎ ((c ≡ d) × (call ≤ 0))
      → LossesFrom c call (all_losses n d callers)
  losses_ordered d [] c call before = tt
  losses_ordered d (fates ∷ callers) c call before = caller_first d (all_losses n (suc d) callers)
      (λ b j le. losses_ordered (suc d) callers b j (inl (omega arith))) c call 0 fates before

  -- ---- what was lost by a rest

  first_lost : (rest : Rest) (c call k : ℕ) (fates : List Fate) → rest.calls c - call ≡ k
      → lost_by rest (losses_from n c call fates) ≡ losses_from n c call (take k fates)
  first_lost rest c call k [] is = grind (arith, common_steps)
  first_lost rest c call zero (lost claimed ∷ fates) is = grind (arith, first_lost rest c (suc call) 0 fates (omega arith))
  first_lost rest c call k (fate ∷ fates) is = grind (arith, first_lost rest c (suc call) (k - 1) fates (omega arith))

  pub all_lost : (rest : Rest) (d : ℕ) (callers early : List (List Fate)) → length early ≡ length callers
      → ((c i : ℕ) → c ≡ d + i → fates_of early i ≡ take (rest.calls c) (fates_of callers i))
      → lost_by rest (all_losses n d callers) ≡ all_losses n d early
  all_lost rest d (fates ∷ callers) (early ∷ others) same firsts =
      let behind = all_lost rest (suc d) callers others (omega arith) (λ c i is. firsts c (suc i) (omega arith)) in
      grind (arith, filter-append, firsts d 0, first_lost rest d 0 (rest.calls d) fates, behind)
  all_lost rest d [] [] same firsts = refl
  all_lost rest d callers early same firsts = absurd (omega arith)

-- before all calls and turns, nothing is lost
pub none_lost : (losses : List Loss) → lost_by start losses ≡ []
none_lost [] = refl
none_lost (loss ∷ losses) = grind (arith, none_lost losses)
