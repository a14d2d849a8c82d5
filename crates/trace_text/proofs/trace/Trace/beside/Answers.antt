use Rattle.trace_text.proofs.Names.{arith}
use Rattle.trace_text.proofs.LaidLemmas.{lie_of, ticks_at}
use Rattle.trace_text.proofs.trace.Trace.beside.Goals as goal

pub part-requires : goal.part-requires
part-requires c = grind (arith, ticks_at _ _ (lie_of c.self.view_is c.self.invariant) c.args.round c.requires)

pub returns : goal.returns
returns c = grind (arith, (ticks_at _ _ (lie_of c.self.view_is c.self.invariant) c.args.round c.requires).is)
