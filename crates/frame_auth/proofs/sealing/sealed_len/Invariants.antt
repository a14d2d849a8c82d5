use Rattle.frame_auth.proofs.Names.{length}
use Rattle.frame_auth.proofs.IntoLemmas.{IsCounted}
use Rattle.frame_auth.proofs.sealing.sealed_len.Given as goal

abbrev pub invariant-loop-rest : goal.invariant-loop-rest
invariant-loop-rest l = IsCounted l.messages l.rest l.len

abbrev pub decreases-loop-rest : goal.decreases-loop-rest
decreases-loop-rest l = length l.rest
