-- The calls of a caller's log in two parts, and the tickets that they got.
use Rattle.history_spec.proofs.Names.{◌≡◌, ℕ, zero, suc, ◌+◌, ◌≤◌, List, [], ◌∷◌, ◌++◌, refl, ap, arith, Fate, lost, accepted, end_of, FatesFrom, end_from, claims_got, StandsIn, RiseFrom}

-- a log in two parts
pub rises_apart : (low : ℕ) (xs ys : List Fate) → FatesFrom low (xs ++ ys) → FatesFrom low xs × FatesFrom (end_from low xs) ys
rises_apart low [] ys rises = (tt, rises)
rises_apart low (x ∷ xs) ys rises = let rest = rises_apart (end_of x) xs ys rises.1 in ((rises.0, rest.0), rest.1)

pub claims_got-append : (xs ys : List Fate) → claims_got (xs ++ ys) ≡ claims_got xs ++ claims_got ys
claims_got-append [] ys = refl
claims_got-append (lost claimed ∷ xs) ys = claims_got-append xs ys
claims_got-append (accepted ticket ∷ xs) ys = ap (λ zs. ticket ∷ zs) (claims_got-append xs ys)

-- the tickets that a log got rise
pub got_rise : (least low : ℕ) (fates : List Fate) → least ≤ low → FatesFrom low fates → RiseFrom least (claims_got fates)
got_rise least low [] le rises = tt
got_rise least low (lost claimed ∷ fates) le rises = got_rise least claimed fates (omega (arith, rises.0)) rises.1
got_rise least low (accepted ticket ∷ fates) le rises =
    (omega (arith, rises.0), got_rise (suc ticket) (ticket + 1) fates (omega arith) rises.1)

-- a ticket that a log got stands in it
pub got_stands : (fates : List Fate) (ticket : ℕ) → StandsIn (claims_got fates) ticket → StandsIn fates (accepted ticket)
got_stands [] ticket (place, at) = cc
got_stands (lost claimed ∷ fates) ticket stands = let rest = got_stands fates ticket stands in (suc rest.0, rest.1)
got_stands (accepted its ∷ fates) ticket (zero, at) = (0, cc)
got_stands (accepted its ∷ fates) ticket (suc place, at) = let rest = got_stands fates ticket (place, at) in (suc rest.0, rest.1)
