use Rattle.permit_ring.proofs.{arith, turned_more}
use Rattle.permit_ring.proofs.keeper.turn_hand.Goals as goal

pub loop-preserved : goal.loop-preserved
loop-preserved g c =
    let more = turned_more c.args.place.now.me.1 c.loop.counter (omega (arith, c.loop-test.true, c.requires)) in
    grind (arith, c.loop.invariant, c.turn.ensures, more)
