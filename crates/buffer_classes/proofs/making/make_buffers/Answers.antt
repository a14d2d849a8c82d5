use Rattle.buffer_classes.proofs.Names.{at_snoc, arith, common_steps}
use Rattle.buffer_classes.proofs.making.make_buffers.Goals as goal

pub loop-preserved : goal.loop-preserved
loop-preserved c =
    let all = at_snoc c.loop.bufs.items c.in_ok-make.field-0 in
    grind (arith, common_steps, all, c.loop.invariant, c.in_ok-make.ensures, c.push_reserved.ensures)
