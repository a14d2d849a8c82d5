use Rattle.buffer_classes.proofs.Names.{arith, at_index, givers_of}
use Rattle.buffer_classes.proofs.givers.Givers.late.Goals as goal

pub returns : goal.returns
returns c = grind (arith, at_index (givers_of c.args.self.now) c.args.class c.index.result.now c.requires c.index.ensures, c.len.ensures)
