-- What the keeper knows once all seats are back.
use Rattle.std.specs.Prelude.{◌≡◌, ◌<◌, ◌≤◌}
use Rattle.permit_ring.specs.Names.{ℕ, zero, suc, List, map, length, sum, sum_by, is_some, true, Option, Some, None, some, get_elem?, KeeperMemo, SeatMemo, marks_of, AreAllDecided}
use Rattle.permit_ring.specs.Logs.{GoesOn, SeesRests, end_from, fate_of, got_of, taken_by}
use Rattle.permit_ring.specs.Order.{HaveOneOrder}
use Rattle.permit_ring.specs.Rule.{StandsIn}

module _ {N : Type 0} where
  -- each seat that was made came back
  abbrev pub AreAllBack : KeeperMemo N → Type 0
  AreAllBack k = (i : ℕ) (back : Option (SeatMemo N)) → get_elem? k.back i ≡ some back → is_some back ≡ true

  -- no seat that came back has a call above the tickets that were reaped
  abbrev pub IsAllReaped : KeeperMemo N → Type 0
  IsAllReaped k = (i : ℕ) (memo : SeatMemo N) → get_elem? k.back i ≡ some (Some memo) → end_from 0 memo.log ≤ length k.notes

  -- the log of seat i, when it came back: each of its calls in order, lost at a front or got
  pub record IsWholeLog (fronts : List ℕ) (taken : List (ℕ × N)) (i : ℕ) (memo : SeatMemo N) : Type 0 where
    pub number_is : memo.number ≡ i
    pub calls_are : memo.view.calls ≡ length memo.log
    pub decided : AreAllDecided (length taken) (StandsIn fronts) (map fate_of memo.log)
    -- what was lost after a rest saw what had been offered by then
    pub sees : SeesRests memo.rests memo.log
    -- it got just the tickets that are its own
    pub got : got_of memo.log ≡ taken_by i 0 (map Some taken)

  -- each seat that came back goes on from what it was when it was released
  abbrev pub ReleasedGoOn : KeeperMemo N → Type 0
  ReleasedGoOn k = (p : ℕ) (was memo : SeatMemo N) → get_elem? k.released p ≡ some was → get_elem? k.back was.number ≡ some (Some memo) → GoesOn was memo

  -- all that was claimed was reaped: the notes are the logs of all seats merged, each ticket once
  pub record IsSettled (k : KeeperMemo N) : Type 0 where
    -- each ticket's seat and note
    pub taken : List (ℕ × N)
    pub notes_are : k.notes ≡ map (λ (x : ℕ × N). x.1) taken
    pub seats_are : (t i : ℕ) (x : N) → get_elem? taken t ≡ some (i, x) → i < k.made
    pub logs_are : (i : ℕ) (memo : SeatMemo N) → get_elem? k.back i ≡ some (Some memo) → IsWholeLog k.fronts taken i memo
    pub order : HaveOneOrder k
    pub go_on : ReleasedGoOn k

  -- the marks of a kind that a seat made which came back
  abbrev pub marks_back : ℕ → Option (SeatMemo N) → ℕ
  marks_back kind None = 0
  marks_back kind (Some memo) = marks_of memo.view kind

  -- the numbers that were swept of a kind
  abbrev pub swept_of : ℕ → KeeperMemo N → List ℕ
  swept_of zero k = k.swept0
  swept_of (suc kind) k = k.swept1

  -- all marks of a kind were swept
  abbrev pub AreAllSwept : ℕ → KeeperMemo N → Type 0
  AreAllSwept kind k = sum (swept_of kind k) ≡ sum_by (marks_back kind) k.back
