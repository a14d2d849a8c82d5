-- A call that is lost at a ring of two positions although it is the only one since the last turn, worked out by hand.
use Rattle.permit_ring.proofs.Names.{◌≡◌, ℕ, true, List, [], ◌∷◌, refl, Holds, seat_at, opening, Look, Claim, Finish, See, Split, Key, Move, Leads, move, led, state_before, finds_none, finds_unready, HasGivenBack, left_and_since}

abbrev two_of_two : Key ℕ
two_of_two = record { positions = 2; limit = 2; terms = 0 }

-- seat 0 gets ticket 0 and is stopped. Seat 1 gets ticket 1 and finishes it. A turn reads the mark of ticket 0, and
-- gives nothing back. Seat 1 looks once more. A found word has 65,536 for each claim, and 2 more than are free
abbrev moves : List Move
moves =
    move Split 0
    ∷ move (Look 0) 4
    ∷ move (Claim 0) 4
    ∷ move (Look 1) 65539
    ∷ move (Claim 1) 65539
    ∷ move (Finish 1) 0
    ∷ move See 0
    ∷ move (Look 1) 131074
    ∷ []

record IsWorkedOut : Type 0 where
  -- each move is possible, and finds what its state shows
  made : Leads (opening 2 2) moves (led two_of_two moves)
  -- the turn took nothing, and seat 0 holds the next ticket
  waits : finds_unready (state_before two_of_two moves 6) (move See 0) ≡ true
  held : Holds (seat_at (state_before two_of_two moves 6).seats 0) 0
  -- the last look finds none free, and so would a claim
  look_lost : finds_none 2 (move (Look 1) 131074) ≡ true
  claim_lost : finds_none 2 (move (Claim 1) 131074) ≡ true
  -- nothing was taken before the turn, and nothing was offered since: both tickets were left at the turn
  from_turn : HasGivenBack two_of_two moves 6 7 × (left_and_since two_of_two moves 6 7 ≡ 2)
  -- counted from the start, both were claimed since
  from_start : HasGivenBack two_of_two moves 0 7 × (left_and_since two_of_two moves 0 7 ≡ 2)

worked_out : IsWorkedOut
worked_out = assumption (refl)
