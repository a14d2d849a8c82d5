-- What runs of the keeper's steps add: reaps one after the other, and an offer.
use Rattle.permit_ring.proofs.Names.{◌≡◌, ℕ, ◌+◌, ◌≤◌, ◌<◌, List, [], ◌∷◌, ◌++◌, length, refl, arith, common_steps, KeeperMemo, eq-zero-or-pos, reaps_all, ReapsToEnd, OffersAll, reaps}

module _ {N : Type 0} where
  -- one reap more
  pub reaps_push : (xs : List N) (x : N) (k : KeeperMemo N)
      → reaps_all (xs ++ x ∷ []) k ≡ reaps (length (reaps_all xs k).notes + 1) x (reaps_all xs k)
  reaps_push [] x k = refl
  reaps_push (y ∷ xs) x k = reaps_push xs x (reaps (length k.notes + 1) y k)

  -- the notes, marks and moves are more; all else is as before
  pub record OnlyReaps (xs : List N) (old new : KeeperMemo N) : Type 0 where
    pub notes_are : new.notes ≡ old.notes ++ xs
    pub marks_are : length new.marks ≡ length old.marks + length xs
    pub moves_are : length new.moves ≡ length old.moves + length xs
    pub fronts_are : new.fronts ≡ old.fronts
    pub offered_is : new.offered ≡ old.offered
    pub swept0_is : new.swept0 ≡ old.swept0
    pub swept1_is : new.swept1 ≡ old.swept1
    pub made_is : new.made ≡ old.made
    pub back_is : new.back ≡ old.back
    pub released_is : new.released ≡ old.released

  pub only_reaps : (xs : List N) (k : KeeperMemo N) → OnlyReaps xs k (reaps_all xs k)
  only_reaps [] k = grind (arith, common_steps)
  only_reaps (x ∷ xs) k = grind (arith, common_steps, only_reaps xs (reaps (length k.notes + 1) x k))

  -- a run to the end makes one move for each ticket, and one more
  pub end_steps : (xs : List N) (old new : KeeperMemo N) → ReapsToEnd xs old new → length new.moves ≡ length old.moves + length xs + 1
  end_steps xs old new run = grind (arith, common_steps, run, only_reaps xs old)

  -- what an offer leaves, with or without a step
  pub record Gave (limit count : ℕ) (old new : KeeperMemo N) : Type 0 where
    pub notes_are : new.notes ≡ old.notes
    pub fronts_are : (count ≡ 0 → new.fronts ≡ old.fronts) × (0 < count → new.fronts ≡ old.fronts ++ (old.offered + count) ∷ [])
    pub offered_is : new.offered ≡ old.offered + count
    pub swept0_is : new.swept0 ≡ old.swept0
    pub swept1_is : new.swept1 ≡ old.swept1
    pub made_is : new.made ≡ old.made
    pub back_is : new.back ≡ old.back
    pub released_is : new.released ≡ old.released
    pub few_moves : (count ≡ 0 → new.moves ≡ old.moves) × (0 < count → length new.moves + length old.notes ≤ length old.moves + old.offered + limit + 1)

  pub gave_of : (limit count : ℕ) (old new : KeeperMemo N) → OffersAll limit count old new → Gave limit count old new
  gave_of limit count old new gave = grind (arith, common_steps, gave, eq-zero-or-pos count)
