use Rattle.buffer_classes.proofs.Names.{arith, at_snoc}
use Rattle.buffer_classes.proofs.giver.Giver.put.Goals as goal

pub returns-then-len-self-clause-mine : goal.returns-then-len-self-clause-mine
returns-then-len-self-clause-mine c = grind (arith, at_snoc c.args.self.now.late.items c.args.buf, c.requires, c.push_reserved.ensures)
