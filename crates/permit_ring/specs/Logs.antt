-- What became of the calls of a seat, and of the tickets of a ring.
use Rattle.std.specs.Prelude.{◌≡◌, ◌+◌, ◌≤◌, ◌==◌, ◌||◌, if◌then◌else◌, ◌∷◌, ◌++◌}
use Rattle.permit_ring.specs.Names.{ℕ, suc, is_some, List, [], map, length, Option, Some, None, some, get_elem?, SeatView, Outcome, Lost, Got, Rest, SeatMemo, Fate, lost, accepted, FatesFrom, Holds}
use Rattle.ids_types.specs.Fates as fates

module _ {N : Type 0} where
  -- what became of a call, without its note
  abbrev pub fate_of : Outcome N → Fate
  fate_of (Lost g) = lost g
  fate_of (Got t x) = accepted t

  -- where a call stands, and the least place at which the seat's next one may
  abbrev pub start_of : Outcome N → ℕ
  start_of r = fates.start_of (fate_of r)

  abbrev pub end_of : Outcome N → ℕ
  end_of r = fates.end_of (fate_of r)

  -- no call stands before the end of the one before it
  abbrev pub RisesFrom : ℕ → List (Outcome N) → Type 0
  RisesFrom low log = FatesFrom low (map fate_of log)

  -- the end of the last call
  abbrev pub end_from : ℕ → List (Outcome N) → ℕ
  end_from low log = fates.end_from low (map fate_of log)

  -- the tickets that a log got, with their notes
  abbrev pub got_of : List (Outcome N) → List (ℕ × N)
  got_of [] = []
  got_of (Lost g ∷ log) = got_of log
  got_of (Got t x ∷ log) = (t, x) ∷ got_of log

  -- what became of tickets, from ticket t on: nothing yet while one is held, then a seat and a note. Those of seat i, with their notes
  abbrev pub taken_by : ℕ → ℕ → List (Option (ℕ × N)) → List (ℕ × N)
  taken_by i t [] = []
  taken_by i t (None ∷ fates) = taken_by i (suc t) fates
  taken_by i t (Some x ∷ fates) = if i == x.0 then (t, x.1) ∷ taken_by i (suc t) fates else taken_by i (suc t) fates

-- a seat that is armed or holds a ticket has one call that is not decided
abbrev pub undecided : SeatView → ℕ
undecided seat = if seat.armed || is_some seat.held then 1 else 0

-- a call that was lost after a rest saw all that had been offered by then
abbrev pub SeesRests : {N : Type 0} → List Rest → List (Outcome N) → Type 0
SeesRests rests log = (l j g : ℕ) (rest : Rest) → get_elem? rests l ≡ some rest → rest.calls ≤ j → get_elem? log j ≡ some (Lost g)
    → rest.offered ≤ g

-- the calls of a seat are in order, and a held ticket is after all of them
pub record IsOrdered {N : Type 0} (memo : SeatMemo N) : Type 0 where
  pub decided : memo.view.calls ≡ length memo.log + undecided memo.view
  pub rises : RisesFrom 0 memo.log
  pub sees : SeesRests memo.rests memo.log
  pub below_ticket : (t : ℕ) → Holds memo.view t → end_from 0 memo.log ≤ t

-- the seat has made more calls and rests since, or none
pub record GoesOn {N : Type 0} (was now : SeatMemo N) : Type 0 where
  pub calls : List (Outcome N)
  pub log_is : now.log ≡ was.log ++ calls
  pub rests : List Rest
  pub rests_are : now.rests ≡ was.rests ++ rests
