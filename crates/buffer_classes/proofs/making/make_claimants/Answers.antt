use Rattle.buffer_classes.proofs.Names.{arith, length_push, at_end}
use Rattle.buffer_classes.proofs.making.make_claimants.Goals as goal

pub loop-number-preserved : goal.loop-number-preserved
loop-number-preserved c =
    let long = length_push c.loop-number.claimants.items in
    grind (arith, at_end c.loop-number.claimants.items, long, c.push_reserved.ensures, c.loop-number.invariant, c.in_ok-with_capacity.ensures)
