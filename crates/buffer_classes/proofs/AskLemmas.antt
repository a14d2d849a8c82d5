-- What a claim that asks one class after another leaves at each.
use Rattle.buffer_classes.proofs.Names.{GotBuffer, NoneFree, ◌≡◌, ℕ, suc, ◌+◌, ◌≤◌, ◌⊎◌, List, [], ◌∷◌, ◌++◌, length, refl, arith, inl, inr, append-nil, Asks, ClaimTells, asked, lost_at, Lost, Outcome, SeatMemo, at_length, if◌then◌else◌, ◌==◌, nat_tests, some, none, get_elem?, ⊎_elim, there, Claim}
use Rattle.std.proofs.lemmas.Bool.{cases_lt}

-- a place of a list has an element, or is past its end
pub below_or : {A : Type 0} (l : List A) (i : ℕ) → ((a : A) × (get_elem? l i ≡ some a)) ⊎ (length l ≤ i)
below_or l i = ⊎_elim (λ low. inl (there l i low)) inr (cases_lt i (length l))

-- past the end there is nothing
pub nothing_past : {A : Type 0} (l : List A) (i : ℕ) → length l ≤ i → get_elem? l i ≡ none
nothing_past (x ∷ l) (suc i) past = nothing_past l i (omega (arith, past))
nothing_past _ _ past = grind arith

-- the looks from `first` on, at a place
pub lost_past : (first i : ℕ) (looks : List ℕ) → first + length looks ≤ i → lost_at first looks i ≡ []
lost_past first i [] past = refl
lost_past first i (x ∷ looks) past = grind (arith, nat_tests, lost_past (suc first) i looks)

-- one look more is that of the next class, and of no other
pub lost_more : (first g next i : ℕ) (looks : List ℕ) → first + length looks ≡ next
    → lost_at first (looks ++ g ∷ []) i ≡ (if i == next then Lost g ∷ [] else lost_at first looks i)
lost_more first g next i [] many = grind (arith, nat_tests)
lost_more first g next i (x ∷ looks) many = grind (arith, nat_tests, lost_more (suc first) g next i looks)

-- past the classes nothing was asked
pub asked_past : (first i : ℕ) (sizes : List ℕ) (result : Claim) → ClaimTells first sizes result → length sizes ≤ i → asked first result i ≡ []
asked_past first i sizes (GotBuffer buf skipped) told past =
    grind (arith, nat_tests, told, at_length sizes buf.class buf.size told.1, lost_past first i skipped)
asked_past first i sizes (NoneFree looks) told past = lost_past first i looks (omega (arith, told, past))

-- the log after a class was asked
pub asks_log : (limit : ℕ) (old new : SeatMemo) (calls : List Outcome) → Asks limit old calls new → new.log ≡ old.log ++ calls
asks_log limit old new (call ∷ []) told = grind (arith, nat_tests, told)
asks_log limit old new calls told = grind (arith, nat_tests, told, append-nil old.log)
