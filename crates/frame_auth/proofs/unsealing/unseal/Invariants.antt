use Rattle.frame_auth.proofs.Names.{length, joined, joined_sealed}
use Rattle.frame_auth.proofs.LayoutLemmas.{Goes}
use Rattle.frame_auth.proofs.unsealing.unseal.Given as goal

abbrev pub invariant-loop-rest : goal.invariant-loop-rest
invariant-loop-rest l = Goes (joined_sealed l.key) (λ due ms. joined ms) l.start l.due l.sealed l.rest l.out.items

abbrev pub decreases-loop-rest : goal.decreases-loop-rest
decreases-loop-rest l = length l.rest
