-- A queue that has just been made.
use Rattle.std.specs.Prelude.{◌≡◌, ℕ, List, length, map, None}
use mathlib.Core.Option.{some}
use lib.ListN.{get_elem?}
use Rattle.permit_ring.specs.declared.seat.Seat.{Seat}
use Rattle.report_queue.specs.Names.{Item, Queue, QueueSeat, Taker}
use Rattle.report_queue.specs.declared.cargo.Items.{Items}
use Rattle.report_queue.specs.Parts.{IsCallerOf, IsTakerOf, calls_of, caller_number, caller_memo, queue_positions, queue_seats, queue_terms, taker_memo, ticket_of, to_give_back}
use Rattle.permit_ring.specs.{IsUntouched, new_memo}

module _ {P L T N : Type 0} where
  -- the callers of a ring's seats
  abbrev pub as_callers : List (Seat (Items P) L (Item L) T (Item N)) → List (QueueSeat P L T N)
  as_callers seats = map (λ seat. record { seat = seat }) seats

  -- a caller that made no call
  pub record IsUnused (queue : Queue P L T N) (seat : QueueSeat P L T N) : Type 0 where
    pub is_caller : IsCallerOf queue seat
    pub knows : caller_memo seat ≡ new_memo (caller_number seat)
    pub no_calls : calls_of seat ≡ 0
    pub is_idle : ticket_of seat ≡ None

  -- all positions are free, nothing was taken, and all callers are made and idle
  pub record IsNewQueue (n seats : ℕ) (terms : T) (queue : Queue P L T N) (taker : Taker P L T N)
      (callers : List (QueueSeat P L T N)) : Type 0 where
    pub positions_are : queue_positions queue ≡ n
    pub seats_may_be : queue_seats queue ≡ seats
    pub terms_are : queue_terms queue ≡ terms
    pub is_taker : IsTakerOf queue taker
    pub untouched : IsUntouched n seats (taker_memo taker)
    pub none_to_give_back : to_give_back taker ≡ 0
    pub all_made : length callers ≡ seats
    pub each : (i : ℕ) (seat : QueueSeat P L T N) → get_elem? callers i ≡ some seat → IsUnused queue seat × (caller_number seat ≡ i)
