use Rattle.std.proofs.Common.{length}
use Rattle.cmd_messages.proofs.LinesLemmas.{ArePrinted}
use Rattle.cmd_messages.proofs.decode.lines_of.Given as goal

abbrev pub invariant-loop-rest : goal.invariant-loop-rest
invariant-loop-rest l = ArePrinted l.bytes l.rest l.lines.items

abbrev pub decreases-loop-rest : goal.decreases-loop-rest
decreases-loop-rest l = length l.rest
