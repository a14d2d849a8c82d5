-- The log of a seat and what became of tickets, with one call or one ticket more.
use Rattle.permit_ring.proofs.Names.{◌≡◌, ◌≢◌, ℕ, zero, suc, ◌+◌, ◌<◌, ◌≤◌, ◌⊎◌, Bool, true, false, cond, List, [], ◌∷◌, ◌++◌, set, Option, Some, None, refl, ◌∙◌, ap, inl, inr, eqb, ne_eqb, eqb-true, ⊎_elim, at_snoc, Rest, SeesRests, arith, common_steps, at_map, map, Outcome, Lost, Got, start_of, end_of, RisesFrom, end_from, got_of, taken_by, get_elem?, some, fate_within, lost, fate_of}

module _ {N : Type 0} where
  -- a call that does not stand before the last one's end
  pub rises_on : (low : ℕ) (log : List (Outcome N)) (x : Outcome N) → RisesFrom low log → end_from low log ≤ start_of x
      → RisesFrom low (log ++ x ∷ [])
  rises_on low [] x rises after = (after, tt)
  rises_on low (r ∷ log) x rises after = (rises.0, rises_on (end_of r) log x rises.1 after)

  pub end_on : (low : ℕ) (log : List (Outcome N)) (x : Outcome N) → end_from low (log ++ x ∷ []) ≡ end_of x
  end_on low [] x = refl
  end_on low (r ∷ log) x = end_on (end_of r) log x

  -- a call that sees the rests
  pub sees_on : (rests : List Rest) (log : List (Outcome N)) (x : Outcome N) → SeesRests rests log
      → ((l g : ℕ) (rest : Rest) → get_elem? rests l ≡ some rest → x ≡ Lost g → rest.offered ≤ g) → SeesRests rests (log ++ x ∷ [])
  sees_on rests log x sees last l j g rest at past e =
      ⊎_elim (sees l j g rest at past) (last l g rest at) (at_snoc log x (Lost g) j e)

  -- the tickets of more calls come after
  pub got_of-append : (log more : List (Outcome N)) → got_of (log ++ more) ≡ got_of log ++ got_of more
  got_of-append [] more = refl
  got_of-append (r ∷ log) more = grind (arith, got_of-append log more)

-- an element of a list with or without one more in front
first_or_behind : {A : Type 0} (b : Bool) (x a : A) (l : List A) (k : ℕ) → get_elem? (cond b (x ∷ l) l) k ≡ some a
    → ((b ≡ true) × (x ≡ a)) ⊎ ((j : ℕ) × (get_elem? l j ≡ some a))
first_or_behind true x a l zero e = inl (refl, cc)
first_or_behind true x a l (suc k) e = inr (k, e)
first_or_behind false x a l k e = inr (k, e)

module _ {N : Type 0} where
  -- a call that got a ticket is among those that did
  pub got_in : (log : List (Outcome N)) (j t : ℕ) (x : N) → get_elem? log j ≡ some (Got t x) → (k : ℕ)
      × (get_elem? (got_of log) k ≡ some (t, x))
  got_in (Lost g ∷ log) (suc j) t x e = got_in log j t x e
  got_in (Got u y ∷ log) zero t x e = (0, cc)
  got_in (Got u y ∷ log) (suc j) t x e = let rest = got_in log j t x e in (suc rest.0, rest.1)
  got_in _ _ t x e = cc

  -- and stands in the log
  pub got_from : (log : List (Outcome N)) (k t : ℕ) (x : N) → get_elem? (got_of log) k ≡ some (t, x) → (j : ℕ)
      × (get_elem? log j ≡ some (Got t x))
  got_from [] k t x e = cc
  got_from (Lost g ∷ log) k t x e = let rest = got_from log k t x e in (suc rest.0, rest.1)
  got_from (Got u y ∷ log) zero t x e = (0, grind arith)
  got_from (Got u y ∷ log) (suc k) t x e = let rest = got_from log k t x e in (suc rest.0, rest.1)

  -- a ticket that the seat finished is among those that it took
  pub taken_in : (i from : ℕ) (fates : List (Option (ℕ × N))) (u t : ℕ) (x : N) → t ≡ from + u → get_elem? fates u ≡ some (Some (i, x))
      → (k : ℕ) × (get_elem? (taken_by i from fates) k ≡ some (t, x))
  taken_in i from (None ∷ fates) (suc u) t x is e = taken_in i (suc from) fates u t x (omega arith) e
  taken_in i from (Some y ∷ fates) zero t x is e = (0, grind (arith, common_steps))
  taken_in i from (Some y ∷ fates) (suc u) t x is e =
      let rest = taken_in i (suc from) fates u t x (omega arith) e in
      (cond (eqb i y.0) (suc rest.0) rest.0, grind (arith, common_steps, rest))
  taken_in i from _ _ t x is e = cc

  -- and what it took it finished
  pub taken_from : (i from : ℕ) (fates : List (Option (ℕ × N))) (k t : ℕ) (x : N) → get_elem? (taken_by i from fates) k ≡ some (t, x)
      → (u : ℕ) × (t ≡ from + u) × (get_elem? fates u ≡ some (Some (i, x)))
  taken_from i from [] k t x e = cc
  taken_from i from (None ∷ fates) k t x e = let rest = taken_from i (suc from) fates k t x e in (suc rest.0, omega arith, rest.2)
  taken_from i from (Some y ∷ fates) k t x e = elim (first_or_behind (eqb i y.0) (from, y.1) (t, x) (taken_by i (suc from) fates) k e) [
    | inl here ↦ (0, grind (arith, here), grind (arith, eqb-true, here))
    | inr later ↦ let rest = taken_from i (suc from) fates later.0 t x later.1 in (suc rest.0, omega arith, rest.2)
  ]

  -- the end of the last call is that of each, or above it
  pub within_end : (low : ℕ) (log : List (Outcome N)) (j : ℕ) (a : Outcome N) → RisesFrom low log → get_elem? log j ≡ some a
      → end_of a ≤ end_from low log
  within_end low log j a rises e = (fate_within low (map fate_of log) j (fate_of a) rises (at_map fate_of log j a e)).1

  -- a lost fate is that of a lost call
  pub lost_in : (log : List (Outcome N)) (j g : ℕ) → get_elem? (map fate_of log) j ≡ some (lost g) → get_elem? log j ≡ some (Lost g)
  lost_in (r ∷ log) (suc j) g at = lost_in log j g at
  lost_in _ _ g at = grind arith

  -- a ticket that is held belongs to no log
  pub taken-open : (i f : ℕ) (fates : List (Option (ℕ × N))) → taken_by i f (fates ++ None ∷ []) ≡ taken_by i f fates
  taken-open i f [] = refl
  taken-open i f (x ∷ fates) = grind (arith, taken-open i (suc f) fates)

  -- one that another seat finishes is none of this seat's
  pub taken-else : (i j f : ℕ) (x : N) (fates : List (Option (ℕ × N))) (t : ℕ) → i ≢ j → get_elem? fates t ≡ some None
      → taken_by i f (set fates t (Some (j, x))) ≡ taken_by i f fates
  taken-else i j f x (None ∷ fates) zero other e = simp (ne_eqb i j other)
  taken-else i j f x (y ∷ fates) (suc t) other e = grind (arith, taken-else i j (suc f) x fates t other e)
  taken-else i j f x _ _ other e = cc

  -- a seat that finished no ticket took none
  pub taken_none : (i f : ℕ) (fates : List (Option (ℕ × N))) → ((u : ℕ) (x : N) → get_elem? fates u ≢ some (Some (i, x))) → taken_by i f fates ≡ []
  taken_none i f [] none = refl
  taken_none i f (None ∷ fates) none = taken_none i (suc f) fates (λ u. none (suc u))
  taken_none i f (Some y ∷ fates) none = grind (arith, none 0 y.1, taken_none i (suc f) fates (λ u. none (suc u)))

  -- one that the seat finishes itself comes last, where all that it finished before are below it
  taken-own_from : (i f b : ℕ) (x : N) (fates : List (Option (ℕ × N))) (t : ℕ) → b ≡ f + t → get_elem? fates t ≡ some None
      → ((u : ℕ) (y : N) → get_elem? fates u ≡ some (Some (i, y)) → u < t)
      → taken_by i f (set fates t (Some (i, x))) ≡ taken_by i f fates ++ (b, x) ∷ []
  taken-own_from i f b x (None ∷ fates) zero is e below =
      grind (arith, common_steps, is, taken_none i (suc f) fates (λ u y done. let k = below (suc u) y done in omega arith))
  taken-own_from i f b x (y ∷ fates) (suc t) is e below =
      grind (arith, common_steps, taken-own_from i (suc f) b x fates t (omega arith) e (λ u z done. let k = below (suc u) z done in omega arith))
  taken-own_from i f b x _ _ is e below = cc

  -- a ticket that a seat finishes comes last among its own
  pub taken-own : (i t : ℕ) (x : N) (fates : List (Option (ℕ × N))) (log : List (Outcome N)) → RisesFrom 0 log → end_from 0 log ≤ t
      → got_of log ≡ taken_by i 0 fates → get_elem? fates t ≡ some None
      → taken_by i 0 (set fates t (Some (i, x))) ≡ taken_by i 0 fates ++ (t, x) ∷ []
  taken-own i t x fates log rises after got is_open = taken-own_from i 0 t x fates t (omega arith) is_open (λ u y done.
      let took = taken_in i 0 fates u u y (omega arith) done in
      let entry = got_from log took.0 u y (ap (λ (l : List (ℕ × N)). get_elem? l took.0) got ∙ took.1) in
      let past : u + 1 ≤ end_from 0 log = within_end 0 log entry.0 (Got u y) rises entry.1 in
      omega arith)
