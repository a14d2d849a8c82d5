use Rattle.report_queue.proofs.Names.{arith, eq-zero-or-pos, to_give_back}
use Rattle.report_queue.proofs.taker.Taker.give_back.Goals as goal

pub returns : goal.returns
returns g c = grind (arith, c.requires.mine, c.offer.ensures, eq-zero-or-pos (to_give_back c.args.self.now))
