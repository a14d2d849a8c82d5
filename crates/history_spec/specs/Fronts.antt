-- The fronts of a report ring: how many places had been offered, after each offer.
use Rattle.std.specs.Prelude.{◌≡◌, ℕ, zero, suc, ◌+◌, ◌≤◌, List, [], ◌∷◌, ◌++◌, length}
use Rattle.ids_types.specs.Turns.{Turn}
use Rattle.history_spec.specs.Losses.{entries_before}

-- the fronts, and one more where some places more were offered
abbrev pub and_front : ℕ → ℕ → List ℕ → List ℕ
and_front offered zero fronts = fronts
and_front offered (suc more) fronts = fronts ++ (offered + suc more) ∷ []

-- the fronts, and those of turns that offered as many places as they have entries
abbrev pub fronts_from : ℕ → List Turn → List ℕ → List ℕ
fronts_from offered [] fronts = fronts
fronts_from offered (turn ∷ turns) fronts =
    fronts_from (offered + length turn.entries) turns (and_front offered (length turn.entries) fronts)

-- so many are the n places and what the first turns, some or all, gave back
abbrev pub IsFront : ℕ → List Turn → ℕ → Type 0
IsFront n turns front = (k : ℕ) × (k ≤ length turns) × (front ≡ entries_before k turns + n)
