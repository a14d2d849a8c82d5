-- The ring as a machine: a state is its numbers, and each step is an equation between states.
use Rattle.std.specs.Prelude.{◌≡◌, ◌+◌, ◌-◌, ◌%◌, ◌^◌, ◌&&◌, ◌==◌, if◌then◌else◌, ◌∷◌, ◌++◌}
use Rattle.ring_core.specs.Names.{ℕ, Result, Ok, Err, Bool, true, false, not, is_some, is_none, nat_lt, nat_le, List, [], length, replicate, slice_index_or, slice_set, Option, Some, None, zero, suc, LossWord, SeatView, Ticket0, Step, Look, Claim, Finish, See, Read, Offer, Mark, Sweep, Split, Join, Resume, PermitWord}

-- a state of the ring
pub record Machine : Type 0 where
  -- how many positions it has, and how many seats may be made
  pub positions : ℕ
  pub limit : ℕ
  -- the permit word
  pub word : PermitWord
  -- how many positions the keeper offered so far, the first ones included
  pub offered : ℕ
  -- how many tickets the keeper saw finished
  pub reaped : ℕ
  -- the mark of each position
  pub marks : List ℕ
  -- the loss words of both kinds
  pub loss0 : LossWord
  pub loss1 : LossWord
  -- the seats that were made, by number
  pub seats : List SeatView
  -- the word that the keeper last read or left
  pub seen : PermitWord

-- the ring has n positions, and so many seats may be made
pub record HasSizes (n limit : ℕ) (m : Machine) : Type 0 where
  pub positions_are : m.positions ≡ n
  pub limit_is : m.limit ≡ limit

-- a seat that was never made
abbrev pub nobody : SeatView
nobody = record { calls = 0; armed = false; held = None; marks0 = 0; marks1 = 0; live = false }

-- a seat that has just been made
abbrev pub new_seat : SeatView
new_seat = record nobody { live = true }

-- seat i
abbrev pub seat_at : List SeatView → ℕ → SeatView
seat_at seats i = slice_index_or seats i nobody

-- the mark of position p
abbrev pub mark_at : List ℕ → ℕ → ℕ
mark_at marks p = slice_index_or marks p 0

-- the loss word of a kind
abbrev pub loss_at : Machine → ℕ → LossWord
loss_at m zero = m.loss0
loss_at m (suc _) = m.loss1

-- the marks that a seat made of a kind
abbrev pub marks_of : SeatView → ℕ → ℕ
marks_of seat zero = seat.marks0
marks_of seat (suc _) = seat.marks1

-- the word of n free positions
abbrev pub all_free : ℕ → PermitWord
all_free n = record { claimed = 0; free = n; over = 0 }

-- the opening state: all n positions are free, and seat 0 is made
abbrev pub opening : ℕ → ℕ → Machine
opening n limit = record {
  positions = n;
  limit = limit;
  word = all_free n;
  offered = n;
  reaped = 0;
  marks = replicate n 0;
  loss0 = record { value = 0; swept = 0 };
  loss1 = record { value = 0; swept = 0 };
  seats = new_seat ∷ [];
  seen = all_free n;
}

-- the seat is live, holds no ticket and is not armed
abbrev pub is_idle : SeatView → Bool
is_idle seat = seat.live && is_none seat.held && not seat.armed

-- the two words are one
abbrev pub same_word : PermitWord → PermitWord → Bool
same_word a b = (a.claimed == b.claimed) && (a.free == b.free) && (a.over == b.over)

-- the word after a claim: one claim more and one position less, or one vain claim more
abbrev pub claimed_from : PermitWord → PermitWord
claimed_from word =
    if nat_lt 0 word.free
    then record word { claimed = word.claimed + 1; free = word.free - 1 }
    else record word { over = word.over + 1 }

-- the word after k positions were offered
abbrev pub offered_to : PermitWord → ℕ → PermitWord
offered_to word k = record word { free = word.free + k; over = 0 }

-- the seat after a look: one call more, and armed where a position is free
abbrev pub looked : PermitWord → SeatView → SeatView
looked word seat = record seat { calls = seat.calls + 1; armed = nat_lt 0 word.free }

-- the seat after its claim: with the next ticket, where a position was free
abbrev pub served : PermitWord → SeatView → SeatView
served word seat = record seat {
  armed = false;
  held = if nat_lt 0 word.free then Some (record { 0 = word.claimed }) else seat.held;
}

-- the seat with one mark more of a kind
abbrev pub marked : ℕ → SeatView → SeatView
marked zero seat = record seat { marks0 = seat.marks0 + 1 }
marked (suc _) seat = record seat { marks1 = seat.marks1 + 1 }

-- the marks after a ticket is finished: that of its position is the ticket plus 1
abbrev pub finished : ℕ → List ℕ → Option Ticket0 → List ℕ
finished n marks None = marks
finished n marks (Some ticket) = slice_set marks (ticket.0 % n) (ticket.0 + 1)

-- the state with seat i changed
abbrev pub with_seat : Machine → ℕ → SeatView → Machine
with_seat m i seat = record m { seats = slice_set m.seats i seat }

-- the state with the loss word of a kind changed
abbrev pub with_loss : Machine → ℕ → LossWord → Machine
with_loss m zero loss = record m { loss0 = loss }
with_loss m (suc _) loss = record m { loss1 = loss }

-- the next ticket to be reaped is finished
abbrev pub next_is_finished : Machine → Bool
next_is_finished m = mark_at m.marks (m.reaped % m.positions) == m.reaped + 1

-- the state where the next ticket is reaped, if it is finished
abbrev pub seen_next : Machine → Machine
seen_next m = record m { reaped = if next_is_finished m then m.reaped + 1 else m.reaped }

-- the state after an offer of k positions, which is made only where the keeper's word is the ring's
abbrev pub offered_more : Machine → ℕ → Machine
offered_more m k =
    if same_word m.word m.seen
    then record m { word = offered_to m.word k; offered = m.offered + k; seen = offered_to m.word k }
    else record m { seen = m.word }

-- the loss word with one mark more
abbrev pub one_more_lost : LossWord → LossWord
one_more_lost loss = record loss { value = loss.value + 1 }

-- the loss word after it was swept
abbrev pub swept_clean : LossWord → LossWord
swept_clean loss = record { value = 0; swept = loss.swept + loss.value }

-- the state where seat i gave up its ticket, which is finished then
abbrev pub finished_by : Machine → ℕ → Machine
finished_by m i =
    let seat = seat_at m.seats i in
    record (with_seat m i (record seat { held = None })) { marks = finished m.positions m.marks seat.held }

-- the seat is live and made fewer than 2^40 marks of the kind
abbrev pub may_mark : ℕ → SeatView → Bool
may_mark kind seat = seat.live && nat_lt (marks_of seat kind) (2 ^ 40)

-- where each kind of step is possible; only a live seat is armed or holds a ticket
abbrev pub possible : Machine → Step → Bool
possible m (Look i) = is_idle (seat_at m.seats i) && nat_lt (seat_at m.seats i).calls (2 ^ 40)
possible m (Claim i) = (seat_at m.seats i).armed
possible m (Finish i) = is_some (seat_at m.seats i).held
possible m See = true
possible m Read = true
possible m (Offer k) = nat_le 1 k && nat_le (m.offered + k) (m.reaped + m.positions)
possible m (Mark i kind) = nat_lt kind 2 && may_mark kind (seat_at m.seats i)
possible m (Sweep kind) = nat_lt kind 2
possible m Split = nat_lt (length m.seats) m.limit
possible m (Join i) = is_idle (seat_at m.seats i)
possible m (Resume i) = nat_lt i (length m.seats) && not (seat_at m.seats i).live

-- what each kind of step makes of a state
abbrev pub after : Machine → Step → Machine
after m (Look i) = with_seat m i (looked m.word (seat_at m.seats i))
after m (Claim i) = record (with_seat m i (served m.word (seat_at m.seats i))) { word = claimed_from m.word }
after m (Finish i) = finished_by m i
after m See = seen_next m
after m Read = record m { seen = m.word }
after m (Offer k) = offered_more m k
after m (Mark i kind) = with_loss (with_seat m i (marked kind (seat_at m.seats i))) kind (one_more_lost (loss_at m kind))
after m (Sweep kind) = with_loss m kind (swept_clean (loss_at m kind))
after m Split = record m { seats = m.seats ++ new_seat ∷ [] }
after m (Join i) = with_seat m i (record (seat_at m.seats i) { live = false })
after m (Resume i) = with_seat m i (record (seat_at m.seats i) { live = true })

-- the state after a step, where the step is possible
abbrev pub next : Machine → Step → Option Machine
next m step = if possible m step then Some (after m step) else None

-- a step's answer: the next state where there is one, and else the state as it was
abbrev pub StepAnswers : {X E : Type 0} → Machine → Step → Result X E → Machine → Type 0
StepAnswers m step (Ok _) now = next m step ≡ Some now
StepAnswers m step (Err _) now = (next m step ≡ None) × (now ≡ m)
