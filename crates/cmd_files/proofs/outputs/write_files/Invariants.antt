use Rattle.cmd_files.proofs.Names.{drop}
use Rattle.cmd_files.proofs.WritingLemmas.{Left}
use Rattle.cmd_files.proofs.outputs.write_files.Given as goal

abbrev pub invariant-loop-file : goal.invariant-loop-file
invariant-loop-file g l = Left l.files (drop l.file-index l.files) (g.H.Shelf.shows l.fn.shelf) (g.H.Shelf.shows l.shelf)
