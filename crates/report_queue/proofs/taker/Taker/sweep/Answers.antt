use Rattle.report_queue.proofs.Names.{arith}
use Rattle.report_queue.proofs.taker.Taker.sweep.Goals as goal

pub returns : goal.returns
returns g c = grind (arith, c.requires.mine, c.sweep-events.ensures, rw c.sweep-events.ensures.told at c.sweep-contexts.ensures)
