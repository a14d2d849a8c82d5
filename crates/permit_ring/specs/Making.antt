-- A ring that has just been made.
use Rattle.std.specs.Prelude.{◌≡◌, ◌-◌, ◌∷◌}
use Rattle.permit_ring.specs.Names.{ℕ, zero, suc, List, [], length, replicate, None, some, get_elem?, Keeper, KeeperMemo, Ring, Seat, Split, all_free}
use Rattle.permit_ring.specs.Moves.{move}
use Rattle.permit_ring.specs.Seats.{IsSeatOf, IsKeeperOf, seat_memo, seat_number, seat_calls, seat_ticket, keeper_memo, ring_positions, ring_seats, ring_terms, vacant_of, filled_of}
use Rattle.permit_ring.specs.Steps.{new_memo, first_memo, makes}

-- the keeper of a ring of n positions and so many seats, which took, swept and offered nothing
pub record IsUntouched {N : Type 0} (n seats : ℕ) (k : KeeperMemo N) : Type 0 where
  pub none_taken : k.notes ≡ []
  pub no_marks : k.marks ≡ []
  pub fronts_are : k.fronts ≡ n ∷ []
  pub offered_is : k.offered ≡ n
  pub offers_are : k.offers ≡ 0
  pub none_swept0 : k.swept0 ≡ []
  pub none_swept1 : k.swept1 ≡ []
  pub seen_is : k.seen ≡ all_free n
  pub made_is : k.made ≡ seats
  pub back_is : k.back ≡ replicate seats None
  pub none_released : k.released ≡ []
  -- its steps made the seats; the first is there from the start
  pub moves_are : k.moves ≡ replicate (seats - 1) (move Split 0)

-- what the keeper knows once so many seats are made
abbrev pub made_memo : {N : Type 0} → ℕ → ℕ → KeeperMemo N
made_memo n zero = first_memo n
made_memo n (suc seats) = makes (made_memo n seats)

module _ {F O D T N : Type 0} (admits_offered : T → O → Type 0) where
  -- seat i, which has made no call
  pub record IsNewSeat (ring : Ring F O D T N) (i : ℕ) (seat : Seat F O D T N) : Type 0 where
    pub is_seat : IsSeatOf admits_offered ring seat
    pub knows : seat_memo seat ≡ new_memo i
    pub number_is : seat_number seat ≡ i
    pub no_calls : seat_calls seat ≡ 0
    pub is_idle : seat_ticket seat ≡ None

  -- seats 0 to the one before `made`
  pub record AreNewSeats (ring : Ring F O D T N) (made : ℕ) (seats : List (Seat F O D T N)) : Type 0 where
    pub all_made : length seats ≡ made
    pub each : (i : ℕ) (seat : Seat F O D T N) → get_elem? seats i ≡ some seat → IsNewSeat ring i seat

  -- all positions are free, and all seats are made and idle
  pub record IsNewRing (n limit : ℕ) (terms : T) (ring : Ring F O D T N) (keeper : Keeper F O D T N)
      (seats : List (Seat F O D T N)) : Type 0 where
    pub positions_are : ring_positions ring ≡ n
    pub seats_may_be : ring_seats ring ≡ limit
    pub terms_are : ring_terms ring ≡ terms
    pub is_keeper : IsKeeperOf admits_offered ring keeper
    pub knows : keeper_memo keeper ≡ made_memo n limit
    pub none_vacant : vacant_of keeper ≡ 0
    pub none_filled : filled_of keeper ≡ 0
    pub seats_are : AreNewSeats ring limit seats
