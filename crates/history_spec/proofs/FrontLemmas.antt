-- What the fronts of a report ring are.
use Rattle.history_spec.proofs.Names.{◌≡◌, ℕ, zero, suc, ◌+◌, ◌⊎◌, List, [], ◌∷◌, ◌++◌, length, take, inl, inr, sym, arith, length-append, Turn, entries_of, StandsIn, common_steps, some-injective}
use Rattle.history_spec.specs.Fronts.{and_front, fronts_from, IsFront}

-- the fronts of a turn more
pub fronts_more : (offered : ℕ) (turns : List Turn) (turn : Turn) (fronts : List ℕ) → fronts_from offered (turns ++ turn ∷ []) fronts
    ≡ and_front (offered + length (entries_of turns)) (length turn.entries) (fronts_from offered turns fronts)
fronts_more offered [] turn fronts = grind arith
fronts_more offered (first ∷ turns) turn fronts = grind (arith, common_steps, fronts_more (offered + length first.entries) turns turn (and_front offered (length first.entries) fronts))

-- a front is one of those before, or the last
old_or_last : (offered more front : ℕ) (fronts : List ℕ) → StandsIn (and_front offered more fronts) front
    → StandsIn fronts front ⊎ (front ≡ offered + more)
old_or_last offered zero front fronts stands = inl stands
old_or_last offered (suc more) front [] (zero, at) = inr (sym (some-injective _ _ at))
old_or_last offered (suc more) front [] (suc place, at) = cc
old_or_last offered (suc more) front (f ∷ fronts) (zero, at) = inl (zero, at)
old_or_last offered (suc more) front (f ∷ fronts) (suc place, at) =
    elim (old_or_last offered (suc more) front fronts (place, at)) [ inl old ↦ inl (suc old.0, old.1) | inr last ↦ inr last ]

fronts_were : (offered front : ℕ) (turns : List Turn) (fronts : List ℕ) → StandsIn (fronts_from offered turns fronts) front
    → StandsIn fronts front ⊎ IsFront offered turns front
fronts_were offered front [] fronts stands = inl stands
fronts_were offered front (turn ∷ turns) fronts stands =
    let here = length turn.entries in
    elim (fronts_were (offered + here) front turns (and_front offered here fronts) stands) [
      | inl old ↦ elim (old_or_last offered here front fronts old)
          [ inl older ↦ inl older | inr last ↦ inr (1, omega arith, omega (arith, length-append turn.entries [])) ]
      | inr (k, within, is) ↦ inr (suc k, omega arith, omega (arith, is, length-append turn.entries (entries_of (take k turns))))
    ]

pub front_was : (n front : ℕ) (turns : List Turn) → StandsIn (fronts_from n turns (n ∷ [])) front → IsFront n turns front
front_was n front turns stands = elim (fronts_were n front turns (n ∷ []) stands) [
  | inl (zero, at) ↦ (0, omega arith, omega (arith, some-injective n front at))
  | inl (suc place, at) ↦ cc
  | inr is ↦ is
]
