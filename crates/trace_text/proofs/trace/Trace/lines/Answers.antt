use Rattle.trace_text.proofs.Names.{arith}
use Rattle.trace_text.proofs.LaidLemmas.{lie_of, lines_in}
use Rattle.trace_text.proofs.trace.Trace.lines.Goals as goal

pub overflow_sub-end : goal.overflow_sub-end
overflow_sub-end c = grind (arith, (lines_in _ _ (lie_of c.self.view_is c.self.invariant) c.args.round c.requires.round c.args.caller).long)
