-- What a call and a turn find at a ring while other moves go on.
use Rattle.std.specs.Prelude.{◌≡◌, ◌+◌, ◌-◌, ◌⊎◌, ◌&&◌, ◌==◌, ◌∷◌}
use Rattle.permit_ring.specs.Names.{ℕ, Bool, true, false, not, List, [], take, drop, Key, Machine, Move, Step, Look, Claim, See, Holds, seat_at, opening, after, unpacked}
use Rattle.permit_ring.specs.Order.{tickets_got}

-- the state after moves from another
abbrev pub after_moves : Machine → List Move → Machine
after_moves m [] = m
after_moves m (v ∷ vs) = after_moves (after m v.step) vs

-- the step is one by which a call asks for a position
abbrev pub asks : Step → Bool
asks (Look i) = true
asks (Claim i) = true
asks _ = false

-- the move is a look or a claim that found no position free, at a ring for so many seats
abbrev pub finds_none : ℕ → Move → Bool
finds_none limit v = asks v.step && (unpacked limit v.found).free == 0

-- the step reads the mark of the next ticket
abbrev pub reads_mark : Step → Bool
reads_mark See = true
reads_mark _ = false

-- the move read a mark that is not the next ticket's in this state, and so took nothing
abbrev pub finds_unready : Machine → Move → Bool
finds_unready m v = reads_mark v.step && not (v.found == m.reaped + 1)

-- all claimed tickets were taken, or a seat holds the next one to be taken
abbrev pub AllTakenOrHeld : Machine → Type 0
AllTakenOrHeld m = (m.reaped ≡ m.word.claimed) ⊎ ((i : ℕ) × Holds (seat_at m.seats i) m.reaped)

-- the state of a key's ring after moves from its opening state
abbrev pub led : {T : Type 0} → Key T → List Move → Machine
led key moves = after_moves (opening key.positions key.limit) moves

module _ {T : Type 0} (key : Key T) (moves : List Move) where
  -- the state before move p
  abbrev pub state_before : ℕ → Machine
  state_before p = led key (take p moves)

  -- before move p all that was taken before move z had been offered again, and no more
  abbrev pub HasGivenBack : ℕ → ℕ → Type 0
  HasGivenBack z p = (state_before p).offered ≡ (state_before z).reaped + key.positions

  -- how many tickets were left at move z, claimed and not taken, and claimed from there on before move p
  abbrev pub left_and_since : ℕ → ℕ → ℕ
  left_and_since z p = ((state_before z).word.claimed - (state_before z).reaped) + tickets_got key.limit (drop z (take p moves))
