-- Who belongs to a ring, and what it knows and holds between two calls.
use Rattle.std.specs.Prelude.{◌≡◌, ◌+◌, ◌%◌, ◌^◌, ◌≤◌, ◌∷◌}
use Rattle.permit_ring.specs.Names.{ℕ, true, false, List, [], length, Option, Some, None, Keeper, Ticket0, KeeperMemo, SeatMemo, Slot, Offered, View, Sits, Keeps, Ring, Seat, Ticket}
use Rattle.atomic_table.specs.declared.shared.Seat.{Seat as Token}
use Rattle.permit_ring.specs.Hands.{hand_from, filled_then, AllAdmitted}
use Rattle.permit_ring.specs.Told.{IsWord, seat_in, keeper_in}
use Rattle.permit_ring.specs.Rule.{IsKey}
use Rattle.permit_ring.specs.Steps.{first_back}

-- the ticket as the machine has it
abbrev pub machine_ticket : Option Ticket → Option Ticket0
machine_ticket None = None
machine_ticket (Some ticket) = Some (record { 0 = ticket.0 })

module _ {F O D T N : Type 0} where
  abbrev pub ring_positions : Ring F O D T N → ℕ
  ring_positions ring = ring.positions

  abbrev pub ring_seats : Ring F O D T N → ℕ
  ring_seats ring = ring.limit

  abbrev pub ring_terms : Ring F O D T N → T
  ring_terms ring = ring.table.shared.key.terms

  -- what a seat knows
  abbrev pub seat_memo : Seat F O D T N → SeatMemo N
  seat_memo seat = seat_in seat.place.me.0

  abbrev pub seat_number : Seat F O D T N → ℕ
  seat_number seat = seat.number

  abbrev pub seat_calls : Seat F O D T N → ℕ
  seat_calls seat = seat.calls

  -- the ticket that a seat holds
  abbrev pub seat_ticket : Seat F O D T N → Option Ticket
  seat_ticket seat = seat.held

  -- what the keeper knows, and how many positions it may fill, and has filled
  abbrev pub keeper_memo : Keeper F O D T N → KeeperMemo N
  keeper_memo keeper = keeper_in keeper.place.me.0

  abbrev pub vacant_of : Keeper F O D T N → ℕ
  vacant_of keeper = keeper.vacant

  abbrev pub filled_of : Keeper F O D T N → ℕ
  filled_of keeper = keeper.filled

  -- the words and slots are those of a ring of its size
  pub record IsSized (ring : Ring F O D T N) : Type 0 where
    pub words_are : ring.table.shared.table_id.words ≡ ring.positions + 3
    pub slots_are : ring.table.shared.table_id.slots ≡ ring.positions
    pub positions_are : ring.table.shared.key.positions ≡ ring.positions
    pub limit_is : ring.table.shared.key.limit ≡ ring.limit
    pub sizes : IsKey ring.table.shared.key

  -- the token is a seat's at the ring's table
  pub record IsSitting (ring : Ring F O D T N) (place : Token (Slot O D) (View T N)) : Type 0 where
    pub ring_is : IsSized ring
    pub at_table : place.table_id ≡ ring.table.shared.table_id
    pub sits : place.me.0 ≡ Sits ring.table.shared.key (seat_in place.me.0)

  -- the token is the keeper's there
  pub record IsKeeping (ring : Ring F O D T N) (place : Token (Slot O D) (View T N)) : Type 0 where
    pub ring_is : IsSized ring
    pub at_table : place.table_id ≡ ring.table.shared.table_id
    pub keeps : place.me.0 ≡ Keeps ring.table.shared.key (keeper_in place.me.0)

  -- the seat is held by the keeper, which knows of it what the memo says
  pub record IsHeldAs (memo : SeatMemo N) (seat : Seat F O D T N) : Type 0 where
    pub number_is : seat.number ≡ memo.number
    pub calls_are : seat.calls ≡ memo.view.calls
    pub is_idle : seat.held ≡ None
    pub none_held : memo.view.held ≡ None
    pub not_armed : memo.view.armed ≡ false

  -- and is the first that the keeper releases
  pub record IsNextHeld (k : KeeperMemo N) (seat : Seat F O D T N) : Type 0 where
    pub memo : SeatMemo N
    pub is_first : first_back k.back ≡ Some memo
    pub held : IsHeldAs memo seat

-- an idle seat has no slot in hand, and one with a ticket has its position's, with what was offered
abbrev pub HasInHand : {O D : Type 0} → (O → Type 0) → ℕ → Option Ticket → List (ℕ × Slot O D) → Type 0
HasInHand Admits n None hand = hand ≡ []
HasInHand Admits n (Some ticket) hand = (ticket.0 ≤ 2 ^ 45) × ((y : _) × Admits y × (hand ≡ (ticket.0 % n, Offered y) ∷ []))

-- the keeper has the slots of so many positions from ticket t on in hand: some filled with admitted values, and after them the vacant ones
pub record KeepsInHand {O D : Type 0} (Admits : O → Type 0) (n t filled vacant : ℕ) (hand : List (ℕ × Slot O D)) : Type 0 where
  pub values : List O
  pub filled_are : length values ≡ filled
  pub admitted : AllAdmitted Admits values
  pub in_hand : hand ≡ hand_from n t (filled_then values vacant)

module _ {F O D T N : Type 0} (admits_offered : T → O → Type 0) where
  -- the seat is one of this ring, between two calls
  pub record IsSeatOf (ring : Ring F O D T N) (seat : Seat F O D T N) : Type 0 where
    pub sitting : IsSitting ring seat.place
    pub number_is : seat.number ≡ (seat_memo seat).number
    pub calls_are : seat.calls ≡ (seat_memo seat).view.calls
    pub ticket_is : (seat_memo seat).view.held ≡ machine_ticket seat.held
    pub is_live : (seat_memo seat).view.live ≡ true
    pub not_armed : (seat_memo seat).view.armed ≡ false
    pub in_hand : HasInHand (admits_offered (ring_terms ring)) ring.positions seat.held seat.place.me.1

  -- the keeper is this ring's, between two calls
  pub record IsKeeperOf (ring : Ring F O D T N) (keeper : Keeper F O D T N) : Type 0 where
    pub keeping : IsKeeping ring keeper.place
    pub reaped_is : keeper.reaped ≡ length (keeper_memo keeper).notes
    pub reaped_within : keeper.reaped ≤ 2 ^ 45
    pub reaped_offered : keeper.reaped ≤ (keeper_memo keeper).offered
    pub seen_is : keeper.seen ≡ (keeper_memo keeper).seen
    pub seen_packs : IsWord ring.positions ring.limit keeper.seen
    -- what was reaped and not offered again is filled or vacant
    pub account : (keeper_memo keeper).offered + keeper.filled + keeper.vacant ≡ keeper.reaped + ring.positions
    pub next_is : keeper.next ≡ keeper.reaped % ring.positions
    pub vacancy_is : keeper.vacancy ≡ ((keeper_memo keeper).offered + keeper.filled) % ring.positions
    pub in_hand : KeepsInHand (admits_offered (ring_terms ring)) ring.positions
        (keeper_memo keeper).offered keeper.filled keeper.vacant keeper.place.me.1
