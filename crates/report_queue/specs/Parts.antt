-- Who belongs to a queue, and what it shows between two calls.
use Rattle.std.specs.Prelude.{◌≡◌, ℕ, ◌<◌, ◌≤◌, ◌^◌, length, Option, Some, None}
use mathlib.Core.Option.{some}
use lib.ListN.{get_elem?}
use Rattle.report_queue.specs.Names.{Ticket, KeeperMemo, SeatMemo, Item, Queue, QueueSeat, Taker}
use Rattle.permit_ring.specs.{IsOrdered, IsHeldAs, IsKeeperOf, IsSeatOf, filled_of, first_back, keeper_memo, ring_positions, ring_seats, ring_terms, seat_calls, seat_memo, seat_number, seat_ticket, vacant_of}
use Rattle.report_queue.specs.Items.{admits_all, NamesItsCalls}

module _ {P L T N : Type 0} where
  abbrev pub queue_positions : Queue P L T N → ℕ
  queue_positions queue = ring_positions queue.ring

  abbrev pub queue_seats : Queue P L T N → ℕ
  queue_seats queue = ring_seats queue.ring

  abbrev pub queue_terms : Queue P L T N → T
  queue_terms queue = ring_terms queue.ring

  abbrev pub caller_number : QueueSeat P L T N → ℕ
  caller_number seat = seat_number seat.seat

  -- how many calls of `claim` the caller made
  abbrev pub calls_of : QueueSeat P L T N → ℕ
  calls_of seat = seat_calls seat.seat

  -- the ticket that the caller holds
  abbrev pub ticket_of : QueueSeat P L T N → Option Ticket
  ticket_of seat = seat_ticket seat.seat

  -- the caller's moves, and what became of its calls
  abbrev pub caller_memo : QueueSeat P L T N → SeatMemo (Item N)
  caller_memo seat = seat_memo seat.seat

  -- the taker's moves, what it took and swept, and each caller as it came back
  abbrev pub taker_memo : Taker P L T N → KeeperMemo (Item N)
  taker_memo taker = keeper_memo taker.keeper

  -- how many items were taken whose positions are not given back
  abbrev pub to_give_back : Taker P L T N → ℕ
  to_give_back taker = filled_of taker.keeper

  -- the caller is one of this queue, between two calls
  pub record IsCallerOf (queue : Queue P L T N) (seat : QueueSeat P L T N) : Type 0 where
    pub is_seat : IsSeatOf admits_all queue.ring seat.seat
    pub below_32 : caller_number seat < 32
    pub calls_within : calls_of seat ≤ 2 ^ 40
    pub number_is : caller_number seat ≡ (caller_memo seat).number
    pub calls_are : calls_of seat ≡ (caller_memo seat).view.calls
    pub in_order : IsOrdered (caller_memo seat)
    pub names : NamesItsCalls (caller_number seat) (caller_memo seat).log

  -- a caller of this queue that holds no ticket
  abbrev pub IsIdle : Queue P L T N → QueueSeat P L T N → Type 0
  IsIdle queue seat = IsCallerOf queue seat × (ticket_of seat ≡ None)

  -- the caller is held by the taker, which knows of it what the memo says
  pub record IsHeldCaller (memo : SeatMemo (Item N)) (seat : QueueSeat P L T N) : Type 0 where
    pub held : IsHeldAs memo seat.seat
    pub below_32 : memo.number < 32
    pub calls_within : memo.view.calls ≤ 2 ^ 40
    pub in_order : IsOrdered memo
    pub names : NamesItsCalls memo.number memo.log

  -- and is the first that the taker releases
  pub record IsNextCaller (k : KeeperMemo (Item N)) (seat : QueueSeat P L T N) : Type 0 where
    pub memo : SeatMemo (Item N)
    pub is_first : first_back k.back ≡ Some memo
    pub held : IsHeldCaller memo seat

  -- the taker is this queue's, between two calls
  pub record IsTakerOf (queue : Queue P L T N) (taker : Taker P L T N) : Type 0 where
    pub is_keeper : IsKeeperOf admits_all queue.ring taker.keeper
    pub none_vacant : vacant_of taker.keeper ≡ 0
    pub made_are : (taker_memo taker).made ≡ length (taker_memo taker).back
    pub seats_are : (taker_memo taker).made ≡ queue_seats queue
    -- each caller that came back named its calls
    pub names : (i : ℕ) (memo : SeatMemo (Item N)) → get_elem? (taker_memo taker).back i ≡ some (Some memo)
        → NamesItsCalls memo.number memo.log
