use Rattle.cmd_files.proofs.Names.{Adds, Cuts, Ok, drop, length, output_of}
use Rattle.cmd_files.proofs.outputs.append_pieces.Given as goal

-- the bytes up to `start` were added, and the cuts that are left go on from there
abbrev pub invariant-loop-end : goal.invariant-loop-end
invariant-loop-end g l = record {
  cuts : Cuts l.start (drop l.end-index l.file.cuts.now) (length l.file.bytes.now);
  added : Adds (output_of l.file) 0 l.start (Ok tt) (g.H.Shelf.shows l.fn.shelf) (g.H.Shelf.shows l.shelf);
}
