use Rattle.ids_bundle.proofs.Names.{◌-◌}
use Rattle.ids_bundle.proofs.PackLemmas.{IsFilling}
use Rattle.ids_bundle.proofs.packing.first_run.Given as goal

abbrev pub invariant-loop-len : goal.invariant-loop-len
invariant-loop-len l = IsFilling l.size l.bytes l.number l.load

abbrev pub decreases-loop-len : goal.decreases-loop-len
decreases-loop-len l = l.size - l.load
