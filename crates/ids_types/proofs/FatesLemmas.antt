-- The order of what became of calls.
use Rattle.std.proofs.Common.{◌≡◌, ℕ, zero, suc, ◌<◌, ◌≤◌, List, [], ◌∷◌, arith}
use mathlib.Core.Option.{some}
use lib.ListN.{get_elem?}
use Rattle.ids_types.specs.Fates.{Fate, start_of, end_of, FatesFrom, end_from, AreAllDecided}

-- a call ends no earlier than it starts, and a log no earlier than its first call
start_end : (fate : Fate) → start_of fate ≤ end_of fate
start_end fate = grind arith

end_later : (low : ℕ) (fates : List Fate) → FatesFrom low fates → low ≤ end_from low fates
end_later low [] rises = omega arith
end_later low (fate ∷ fates) rises = omega (arith, rises.0, start_end fate, end_later (end_of fate) fates rises.1)

-- each call of a log stands between its ends
pub fate_within : (low : ℕ) (fates : List Fate) (place : ℕ) (fate : Fate) → FatesFrom low fates → get_elem? fates place ≡ some fate
    → (low ≤ start_of fate) × (end_of fate ≤ end_from low fates)
fate_within low [] place fate rises at = cc
fate_within low (first ∷ fates) zero fate rises at = let later = end_later (end_of first) fates rises.1 in grind (arith, rises.0)
fate_within low (first ∷ fates) (suc place) fate rises at = grind (arith, start_end first, fate_within (end_of first) fates place fate rises.1 at)

-- an earlier call ends no later than a later one starts
pub fates_in_order : (low : ℕ) (fates : List Fate) (i j : ℕ) (fate next : Fate) → FatesFrom low fates → get_elem? fates i ≡ some fate
    → get_elem? fates j ≡ some next → i < j → end_of fate ≤ start_of next
fates_in_order low [] i j fate next rises at there less = cc
fates_in_order low (first ∷ fates) i zero fate next rises at there less = absurd (omega arith)
fates_in_order low (first ∷ fates) zero (suc j) fate next rises at there less = grind (arith, fate_within (end_of first) fates j next rises.1 there)
fates_in_order low (first ∷ fates) (suc i) (suc j) fate next rises at there less =
    fates_in_order (end_of first) fates i j fate next rises.1 at there (omega arith)

-- where the numbers at which calls were lost are also such
pub decided_on : {claimed : ℕ} {IsFront Other : ℕ → Type 0} {fates : List Fate} → AreAllDecided claimed IsFront fates
    → ((number : ℕ) → IsFront number → Other number) → AreAllDecided claimed Other fates
decided_on all wider = record { rises = all.rises; within = all.within; at_front = λ place number at. wider number (all.at_front place number at) }
