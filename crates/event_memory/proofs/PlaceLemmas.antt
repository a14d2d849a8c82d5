-- One place of the records, among all slots and among those in use.
use Rattle.event_memory.proofs.Names.{remove, ◌≡◌, ◌≤◌, ◌<◌, ℕ, zero, suc, List, [], ◌∷◌, ◌++◌, length, take, drop, get_or, slice_set, refl, ap, arith, Stored, get_or-take, take-append-le, Row, take-nil, length-remove, added, after_adding, no_row, common_steps, length-reverse}
use Rattle.text_spec.proofs.WordsLemmas.{one_more, text_of-map}

-- the first elements where one of them is removed
take-remove : {A : Type 0} (n i : ℕ) (xs : List A) → i < suc n → take n (remove xs i) ≡ remove (take (suc n) xs) i
take-remove n i [] within = simp take-nil
take-remove n zero (x ∷ xs) within = refl
take-remove zero (suc i) (x ∷ xs) within = absurd (omega arith)
take-remove (suc n) (suc i) (x ∷ xs) within = ap (λ ys. x ∷ ys) (take-remove n i xs (omega arith))

-- and where another one stands before them
take-brought : {A : Type 0} (n i : ℕ) (x : A) (xs : List A) → i < n → take n (x ∷ remove xs i) ≡ x ∷ remove (take n xs) i
take-brought zero i x xs within = absurd (omega arith)
take-brought (suc n) i x xs within = ap (λ ys. x ∷ ys) (take-remove n i xs within)

-- an item was added to a record that was brought first
pub added_held : (item : Stored) (slots now : List Row) (n used place : ℕ) (first row : Row)
    → n ≡ length slots → used ≤ n → place < used
    → now ≡ get_or slots place no_row ∷ remove slots place → first ≡ get_or (take n (now ++ drop (length now) slots)) 0 first
    → row ≡ added item first
    → let after = slice_set (take n (now ++ drop (length now) slots)) 0 row in
    record { room = length after; rows = take used after }
    ≡ after_adding item place (record { room = length slots; rows = take used slots })
added_held item slots now n used place first row full few within brought is adds = grind (arith, common_steps, length-remove, take-append-le, get_or-take, take-brought)

-- what printing needs
pub ruleset printing = (common_steps, one_more, text_of-map, length-reverse)
