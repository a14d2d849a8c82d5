use Rattle.journal.proofs.Names.{◌≡◌, ◌-◌, take, length, numbers_in, with_front}
use Rattle.journal.proofs.claims.numbers_of.Given as goal

-- the numbers so far and those of the pieces that are left are those of all pieces
abbrev pub invariant-loop-i : goal.invariant-loop-i
invariant-loop-i l = record {
  read : with_front (take l.i l.values) (numbers_in (4 - l.i) l.rest) ≡ numbers_in 4 l.fn.pieces;
  four : length l.values ≡ 4;
}
