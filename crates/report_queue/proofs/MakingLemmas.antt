-- A queue that has just been made, from its ring.
use Rattle.report_queue.proofs.Names.{at_length, new_ordered, untouched, get_or_default, length-map, length-replicate, some, ◌≡◌, ℕ, zero, suc, ◌≤◌, List, replicate, Option, Some, None, arith, All, slice_index_or, at_index, get_elem?, SeatMemo, Item, Queue, QueueSeat, Taker, admits_all, IsNewQueue, IsUnused, as_callers, caller_number}
use Rattle.permit_ring.specs.declared.seat.Seat.{Seat}
use Rattle.permit_ring.specs.Making as ring
use Rattle.report_queue.specs.declared.cargo.Items.{Items}
use Rattle.report_queue.proofs.ClosingLemmas.{at_map_back}

-- a list of nothing has nothing
pub none_there : {A C : Type 0} (n i : ℕ) (a : A) → get_elem? (replicate n None) i ≡ some (Some a) → C
none_there zero i a e = cc
none_there (suc n) zero a e = cc
none_there (suc n) (suc i) a e = none_there n i a e

module _ {P L T N : Type 0} (queue : Queue P L T N) where
  -- a new ring with a keeper and callers is a new queue
  pub new_queue_is : (n seats : ℕ) (terms : T) (taker : Taker P L T N) (ring_seats : List (Seat (Items P) L (Item L) T (Item N)))
      (callers : List (QueueSeat P L T N)) → seats ≤ 32 → ring.IsNewRing admits_all n seats terms queue.ring taker.keeper ring_seats
      → callers ≡ as_callers ring_seats → IsNewQueue n seats terms queue taker callers
  new_queue_is n seats terms taker ring_seats callers within is are =
      let made = untouched {N = Item N} n seats in
      let none = none_there {A = SeatMemo (Item N)} {C = ⊥} seats in
      let long = length-map {B = QueueSeat P L T N} ring_seats (λ seat. record { seat = seat }) in
      let each : (i : ℕ) (seat : QueueSeat P L T N) → get_elem? callers i ≡ some seat → IsUnused queue seat × (caller_number seat ≡ i) = λ i seat e.
      let found = at_map_back (λ (s : Seat (Items P) L (Item L) T (Item N)). record { seat = s }) ring_seats i seat (rw are at e) in
      let low = at_length ring_seats i found.0 found.1 in
      let new = is.seats_are.each i found.0 found.1 in
      rw (← found.2) (grind (arith, new, low, is.seats_are.all_made, within, new_ordered {N = Item N} i)) in
      grind (arith, is, made, none, long, are, each, length-replicate {A = Option (SeatMemo (Item N))} seats None)

-- each caller of a new queue is unused
pub all_unused : {P L T N : Type 0} {n seats : ℕ} {terms : T} {queue : Queue P L T N} {taker : Taker P L T N}
    {callers : List (QueueSeat P L T N)} → IsNewQueue n seats terms queue taker callers → All (IsUnused queue) callers
all_unused {callers = callers} is i d low = let seat = slice_index_or callers i d in
    (is.each i seat (at_index callers i seat low (get_or_default callers i d seat low))).0
