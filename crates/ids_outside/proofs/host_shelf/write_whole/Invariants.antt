use Rattle.std.proofs.Common.{◌≤◌, ◌-◌, length, take}
use Rattle.std.specs.Io.KnownBytes.{Appends}
use Rattle.ids_outside.proofs.host_shelf.write_whole.Given as goal

-- the first part of the piece is written
abbrev pub invariant-loop-written : goal.invariant-loop-written
invariant-loop-written g l = record {
  within : l.written ≤ length l.piece;
  taken : Appends (g.W.Write.contents l.fn.to) (g.W.Write.contents l.to) (take l.written l.piece);
}

-- the part of the piece that is left
abbrev pub decreases-loop-written : goal.decreases-loop-written
decreases-loop-written g l = length l.piece - l.written
