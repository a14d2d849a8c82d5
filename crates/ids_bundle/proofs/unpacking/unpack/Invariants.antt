use Rattle.ids_bundle.proofs.Names.{length}
use Rattle.ids_bundle.proofs.UnpackLemmas.{IsUnpacking}
use Rattle.ids_bundle.proofs.unpacking.unpack.Given as goal

abbrev pub invariant-loop-rest : goal.invariant-loop-rest
invariant-loop-rest l = IsUnpacking l.units l.rest l.out.items

abbrev pub decreases-loop-rest : goal.decreases-loop-rest
decreases-loop-rest l = length l.rest
