use Rattle.frame_auth.proofs.Names.{length}
use Rattle.frame_auth.proofs.IntoLemmas.{IsSealing}
use Rattle.frame_auth.proofs.sealing.seal_all.Given as goal

abbrev pub invariant-loop-rest : goal.invariant-loop-rest
invariant-loop-rest l = IsSealing l.key l.start l.messages l.fn.buffer l.rest l.buffer l.due l.end

abbrev pub decreases-loop-rest : goal.decreases-loop-rest
decreases-loop-rest l = length l.rest
