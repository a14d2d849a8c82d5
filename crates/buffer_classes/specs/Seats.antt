-- One who claims buffers: a seat at the ring of each class, idle between two claims.
use Rattle.std.specs.Prelude.{◌≡◌, ◌≤◌}
use Rattle.buffer_classes.specs.Names.{Maybe, ℕ, List, length, sum_by, None, vec_capacity, some, none, get_elem?, IsHeldAs, IsOrdered, IsSeatOf, seat_calls, seat_memo, seat_number, seat_ticket, new_memo, Class, Classes, ClassSeat, Outcome, SeatMemo, ClaimSeat}
use Rattle.buffer_classes.specs.Buffers.{IsBufferOf}
use Rattle.buffer_classes.specs.Classes.{AreClasses}

-- the claimant's number, and how many claims it has made
abbrev pub claimant_of : ClaimSeat → ℕ
claimant_of seat = seat.number

abbrev pub claims_of : ClaimSeat → ℕ
claims_of seat = seat.claims

-- how many steps its seats have made
abbrev pub steps_of : ClaimSeat → ℕ
steps_of seat = sum_by (λ (s : ClassSeat). length (seat_memo s).moves) seat.seats.items

-- what a seat knows, where there is one
abbrev pub memo_in : Maybe ClassSeat → SeatMemo
memo_in none = new_memo 0
memo_in (some seat) = seat_memo seat

-- what the claimant knows of class i
abbrev pub memo_at : ClaimSeat → ℕ → SeatMemo
memo_at seat i = memo_in (get_elem? seat.seats.items i)

-- what became of its calls at class i; none where there is no such class
abbrev pub log_of : ClaimSeat → ℕ → List Outcome
log_of seat i = (memo_at seat i).log

-- a seat of the class's ring that holds no ticket
pub record IsClassSeat (class : Class) (seat : ClassSeat) : Type 0 where
  pub is_seat : IsSeatOf IsBufferOf class.ring seat
  pub is_idle : seat_ticket seat ≡ None
  pub ordered : IsOrdered (seat_memo seat)

-- the seat of the claimant of a number, who has made so many claims
pub record IsHisSeat (number claims : ℕ) (class : Class) (seat : ClassSeat) : Type 0 where
  pub is_seat : IsClassSeat class seat
  pub number_is : seat_number seat ≡ number
  pub calls_within : seat_calls seat ≤ claims

-- a claimant of these classes, between two claims
pub record IsClaimSeatOf (classes : Classes) (seat : ClaimSeat) : Type 0 where
  pub are : AreClasses classes
  pub all : length seat.seats.items ≡ length classes.classes.items
  -- its list has the room of that of the classes, which never changes
  pub room : vec_capacity seat.seats ≡ vec_capacity classes.classes
  pub each : (i : ℕ) (class : Class) (s : ClassSeat) → get_elem? classes.classes.items i ≡ some class
      → get_elem? seat.seats.items i ≡ some s → IsHisSeat seat.number seat.claims class s

-- the seat of the claimant of a number, who has made so many claims, is held, and the memo is what is known of it
pub record IsHisHeld (number claims : ℕ) (memo : SeatMemo) (seat : ClassSeat) : Type 0 where
  pub held : IsHeldAs memo seat
  pub ordered : IsOrdered memo
  pub number_is : memo.number ≡ number
  pub calls_within : memo.view.calls ≤ claims

-- a claimant of these classes is held, and the memos are what is known of its seats
pub record IsHeldClaimant (classes : Classes) (memos : ℕ → SeatMemo) (seat : ClaimSeat) : Type 0 where
  pub all : length seat.seats.items ≡ length classes.classes.items
  pub room : vec_capacity seat.seats ≡ vec_capacity classes.classes
  pub each : (i : ℕ) (s : ClassSeat) → get_elem? seat.seats.items i ≡ some s → IsHisHeld seat.number seat.claims (memos i) s
