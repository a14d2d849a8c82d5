use Rattle.ids_bundle.proofs.Names.{length}
use Rattle.ids_bundle.proofs.PackLemmas.{IsPacking}
use Rattle.ids_bundle.proofs.packing.pack.Given as goal

abbrev pub invariant-loop-rest : goal.invariant-loop-rest
invariant-loop-rest l = IsPacking l.size l.messages l.out.items l.rest

abbrev pub decreases-loop-rest : goal.decreases-loop-rest
decreases-loop-rest l = length l.rest
