use Rattle.cmd_files.proofs.Names.{Ok, arith, common_steps, drop_more}
use Rattle.cmd_files.proofs.WritingLemmas.{failed_next, wrote_next}
use Rattle.cmd_files.proofs.outputs.write_files.Goals as goal

pub returns-in_err-write_file : goal.returns-in_err-write_file
returns-in_err-write_file g c =
    failed_next _ _ _ _ (drop_more _ _ _ c.loop-file-test.true) _ _ _ c.loop-file.invariant _ c.in_err-write_file.ensures _ c.from_residual.ensures.1

pub loop-file-preserved : goal.loop-file-preserved
loop-file-preserved g c = wrote_next _ _ _ _ (drop_more _ _ _ c.loop-file-test.true) _ _ _ c.loop-file.invariant c.in_ok-write_file.ensures

pub returns : goal.returns
returns g c = c.loop-file.invariant.rest (Ok tt) (g.H.Shelf.shows c.loop-file.shelf) (grind (arith, common_steps))
