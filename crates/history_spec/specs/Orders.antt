-- Places, counts and order in lists of numbers.
use Rattle.std.specs.Prelude.{◌≡◌, ℕ, suc, ◌+◌, ◌<◌, ◌≤◌, ◌⊎◌, ◌==◌, nat_lt, if◌then◌else◌, List, [], ◌∷◌}
use mathlib.Core.Option.{some}
use lib.ListN.{get_elem?}
use Rattle.history_spec.specs.Names.{Loss}

-- it stands in the list
abbrev pub StandsIn : {A : Type 0} → List A → A → Type 0
StandsIn xs x = (place : ℕ) × (get_elem? xs place ≡ some x)

-- how often a number stands in a list
abbrev pub times : ℕ → List ℕ → ℕ
times x [] = 0
times x (y ∷ ys) = (if y == x then 1 else 0) + times x ys

-- once where the number is below n, else not at all
abbrev pub once_below : ℕ → ℕ → ℕ
once_below x n = if nat_lt x n then 1 else 0

-- each number is above the one before it, the first at least the least
abbrev pub RiseFrom : ℕ → List ℕ → Type 0
RiseFrom least [] = Unit {0}
RiseFrom least (x ∷ xs) = (least ≤ x) × RiseFrom (suc x) xs

-- no number is below the one before it, the first at least the least
abbrev pub KeepUpFrom : ℕ → List ℕ → Type 0
KeepUpFrom least [] = Unit {0}
KeepUpFrom least (x ∷ xs) = (least ≤ x) × KeepUpFrom x xs

-- losses by caller and then by call, the first at least that of this caller and call
abbrev pub LossesFrom : ℕ → ℕ → List Loss → Type 0
LossesFrom caller call [] = Unit {0}
LossesFrom caller call (loss ∷ losses) =
    ((caller < loss.caller) ⊎ ((caller ≡ loss.caller) × (call ≤ loss.call))) × LossesFrom loss.caller (suc loss.call) losses
