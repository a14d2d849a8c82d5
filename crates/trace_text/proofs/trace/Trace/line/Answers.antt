use Rattle.trace_text.proofs.Names.{arith, changes}
use Rattle.trace_text.proofs.LaidLemmas.{lie_of, lines_in}
use Rattle.trace_text.proofs.trace.Trace.line.Goals as goal

pub overflow_add-start : goal.overflow_add-start
overflow_add-start c = grind (arith, lines_in _ _ (lie_of c.self.view_is c.self.invariant) c.args.round c.requires.round c.args.caller, c.self.invariant.few_lines c.args.caller)

pub line-requires-clause-line : goal.line-requires-clause-line
line-requires-clause-line c = grind (arith, lines_in _ _ (lie_of c.self.view_is c.self.invariant) c.args.round c.requires.round c.args.caller)

pub returns : goal.returns
returns c = grind (arith, (lines_in _ _ (lie_of c.self.view_is c.self.invariant) c.args.round c.requires.round c.args.caller).at c.args.i (changes 0))
