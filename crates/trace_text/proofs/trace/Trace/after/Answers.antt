use Rattle.trace_text.proofs.Names.{arith}
use Rattle.trace_text.proofs.LaidLemmas.{after_is, lie_of}
use Rattle.trace_text.proofs.trace.Trace.after.Goals as goal

pub returns : goal.returns
returns c = grind (arith, after_is _ _ (lie_of c.self.view_is c.self.invariant) c.args.round c.requires)
