-- What holds of a ring between any two steps.
use Rattle.std.specs.Prelude.{◌≡◌, ◌+◌, ◌%◌, ◌^◌, ◌<◌, ◌≤◌}
use Rattle.ring_core.specs.Names.{ℕ, IsTrue, IsSome, List, length, count_by, sum_by, Some, None, SeatView, PermitWord}
use Rattle.ring_core.specs.Machine.{Machine, seat_at, mark_at}
use Rattle.ring_core.specs.Words.{tries_of, field_of, FreeOrOver}

-- the seat holds the ticket
abbrev pub Holds : SeatView → ℕ → Type 0
Holds seat ticket = seat.held ≡ Some (record { 0 = ticket })

-- the number of seats that are armed
abbrev pub armed_count : List SeatView → ℕ
armed_count seats = count_by (λ seat. seat.armed) seats

-- the calls of all seats
abbrev pub calls_sum : List SeatView → ℕ
calls_sum seats = sum_by (λ seat. seat.calls) seats

-- the sizes of the ring, which no step changes
pub record AreSizes (n limit : ℕ) (marks : List ℕ) : Type 0 where
  -- a ring has 1 to 1,024 positions
  pub some_position : 1 ≤ n
  pub most_positions : n ≤ 1024
  -- and at most 32 seats
  pub most_seats : limit ≤ 32
  -- each position has a mark
  pub a_mark_each : length marks ≡ n

-- the permit word beside what was offered and reaped
pub record ArePermits (n offered reaped : ℕ) (word : PermitWord) : Type 0 where
  -- what was offered is claimed or still free
  pub account : offered ≡ word.claimed + word.free
  -- no more is free than the ring has
  pub free_within : word.free ≤ n
  -- vain claims are counted only where none is free
  pub either : FreeOrOver word
  -- what was reaped was claimed before
  pub reaped_claimed : reaped ≤ word.claimed
  -- a position is offered again only after its ticket was reaped
  pub one_turn_ahead : offered ≤ reaped + n

-- one seat of a ring
pub record IsSeat (reaped claimed : ℕ) (seat : SeatView) : Type 0 where
  -- only a live seat is armed
  pub armed_is_live : IsTrue seat.armed → IsTrue seat.live
  -- only a live seat holds a ticket
  pub holder_is_live : IsSome seat.held → IsTrue seat.live
  -- an armed seat holds none
  pub armed_holds_none : IsTrue seat.armed → seat.held ≡ None
  -- a held ticket is claimed and not reaped
  pub held_is_out : (t : ℕ) → Holds seat t → (reaped ≤ t) × (t < claimed)
  -- the seat counts at most 2^40 calls
  pub calls_within : seat.calls ≤ 2 ^ 40
  -- and of each kind at most 2^40 marks
  pub marks0_within : seat.marks0 ≤ 2 ^ 40
  pub marks1_within : seat.marks1 ≤ 2 ^ 40

-- the seats that were made
pub record AreSeats (limit reaped : ℕ) (word : PermitWord) (seats : List SeatView) : Type 0 where
  -- each is in order
  pub each : (i : ℕ) → IsSeat reaped word.claimed (seat_at seats i)
  -- no two hold one ticket
  pub apart : (i j t : ℕ) → Holds (seat_at seats i) t → Holds (seat_at seats j) t → i ≡ j
  -- no more were made than may be
  pub made_within : length seats ≤ limit
  -- armed seats and vain claims together are at most the seats
  pub armed_within : armed_count seats + word.over ≤ limit
  -- each claim and each armed seat had a call of its own
  pub each_had_a_call : word.claimed + armed_count seats ≤ calls_sum seats

-- the ticket was claimed, stands at position p, and no seat holds it
pub record IsFinished (n claimed : ℕ) (seats : List SeatView) (p t : ℕ) : Type 0 where
  pub claimed_before : t < claimed
  pub stands_at : t % n ≡ p
  pub held_by_none : (i : ℕ) → ¬ Holds (seat_at seats i) t

-- the mark of position p: 1 plus the greatest finished ticket there, and 0 where there is none
pub record IsMark (n claimed : ℕ) (seats : List SeatView) (p mark : ℕ) : Type 0 where
  -- no finished ticket is as great as the mark
  pub above_all : (t : ℕ) → IsFinished n claimed seats p t → t < mark
  -- the one below it is finished
  pub just_above : (t : ℕ) → mark ≡ t + 1 → IsFinished n claimed seats p t

-- the word beside the one that the keeper last read or left
pub record IsLast (n limit : ℕ) (word seen : PermitWord) : Type 0 where
  -- the field has only fallen since then
  pub field_falls : field_of limit word ≤ field_of limit seen
  -- by as much as the tries have risen
  pub tries_rise : tries_of word + field_of limit word ≡ tries_of seen + field_of limit seen
  -- the keeper's word is itself that of a ring of this size
  pub free_within : seen.free ≤ n
  pub over_within : seen.over ≤ limit
  pub either : FreeOrOver seen

-- what holds of a ring between any two steps
pub record IsRing (m : Machine) : Type 0 where
  pub sizes : AreSizes m.positions m.limit m.marks
  pub permits : ArePermits m.positions m.offered m.reaped m.word
  pub seats : AreSeats m.limit m.reaped m.word m.seats
  -- each position's mark shows its greatest finished ticket
  pub marks : (p : ℕ) → p < m.positions → IsMark m.positions m.word.claimed m.seats p (mark_at m.marks p)
  -- each loss word and what was swept of it are the marks of all seats
  pub loss0 : m.loss0.value + m.loss0.swept ≡ sum_by (λ seat. seat.marks0) m.seats
  pub loss1 : m.loss1.value + m.loss1.swept ≡ sum_by (λ seat. seat.marks1) m.seats
  pub last : IsLast m.positions m.limit m.word m.seen
