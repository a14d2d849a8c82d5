-- What stands at a place of a list.
use Rattle.law_closing.proofs.Names.{some, get_elem?, ◌≡◌, ℕ, zero, suc, ◌+◌, List, [], ◌∷◌, length, refl, sym, slice_index_or, ◌++◌, subst, and_front, fronts_from}
use Rattle.ids_types.specs.Turns.{Turn}

-- with anything else past its end
pub or_at : {A : Type 0} (xs : List A) (i : ℕ) (d x : A) → get_elem? xs i ≡ some x → slice_index_or xs i d ≡ x
or_at (y ∷ xs) (suc i) d x at = or_at xs i d x at
or_at _ _ d x at = cc

-- a front more leaves the first
and_first : (offered more front : ℕ) (fronts : List ℕ) → (rest : List ℕ) × (and_front offered more (front ∷ fronts) ≡ front ∷ rest)
and_first offered zero front fronts = (fronts, refl)
and_first offered (suc more) front fronts = (fronts ++ (offered + suc more) ∷ [], refl)

-- the first front of some turns is the one that there was
pub first_front : (offered : ℕ) (turns : List Turn) (front : ℕ) (fronts : List ℕ)
    → get_elem? (fronts_from offered turns (front ∷ fronts)) 0 ≡ some front
first_front offered [] front fronts = refl
first_front offered (turn ∷ turns) front fronts =
    let its = and_first offered (length turn.entries) front fronts in
    subst (λ (fs : List ℕ). get_elem? (fronts_from (offered + length turn.entries) turns fs) 0 ≡ some front) (sym its.1)
    (first_front (offered + length turn.entries) turns front its.0)
