-- What became of the calls of one who claims at a ring.
use Rattle.std.specs.Prelude.{◌≡◌, ℕ, ◌+◌, ◌≤◌, List, [], ◌∷◌}
use mathlib.Core.Option.{some}
use lib.ListN.{get_elem?}

-- a call was lost where so many tickets had been claimed, or it got this ticket
pub data Fate : Type 0 where
  lost : ℕ → Fate
  accepted : ℕ → Fate

-- a lost call stands where the claims were then, and an accepted one at its ticket
abbrev pub start_of : Fate → ℕ
start_of (lost claimed) = claimed
start_of (accepted ticket) = ticket

-- the least place at which the caller's next call may stand
abbrev pub end_of : Fate → ℕ
end_of (lost claimed) = claimed
end_of (accepted ticket) = ticket + 1

-- no call stands before the end of the one before it
abbrev pub FatesFrom : ℕ → List Fate → Type 0
FatesFrom low [] = Unit {0}
FatesFrom low (fate ∷ fates) = (low ≤ start_of fate) × FatesFrom (end_of fate) fates

-- the end of the last call
abbrev pub end_from : ℕ → List Fate → ℕ
end_from low [] = low
end_from low (fate ∷ fates) = end_from (end_of fate) fates

-- the tickets that the calls got
abbrev pub claims_got : List Fate → List ℕ
claims_got [] = []
claims_got (lost claimed ∷ fates) = claims_got fates
claims_got (accepted ticket ∷ fates) = ticket ∷ claims_got fates

-- calls all of which are decided, where so many tickets were claimed: each in order, and lost only at such numbers
pub record AreAllDecided (claimed : ℕ) (IsFront : ℕ → Type 0) (fates : List Fate) : Type 0 where
  pub rises : FatesFrom 0 fates
  pub within : end_from 0 fates ≤ claimed
  pub at_front : (place number : ℕ) → get_elem? fates place ≡ some (lost number) → IsFront number
