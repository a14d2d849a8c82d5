use Rattle.ring_core.proofs.{arith, opening, one_more, run_stops}
use Rattle.ring_core.proofs.running.run.Goals as goal

pub loop-at-preserved : goal.loop-at-preserved
loop-at-preserved c = let more = one_more (opening c.args.n c.args.seats) c.loop-at.ring c.args.steps.now c.loop-at.at
    c.loop-at-test.true c.loop-at.invariant.reached in grind arith

pub returns-in-Err-clause-answer : goal.returns-in-Err-clause-answer
returns-in-Err-clause-answer c = run_stops (opening c.args.n c.args.seats) c.loop-at.ring c.args.steps.now c.loop-at.at
    c.loop-at-test.true c.loop-at.invariant.reached c.in-Err.ensures.next
