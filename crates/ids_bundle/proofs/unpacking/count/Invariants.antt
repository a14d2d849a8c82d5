use Rattle.ids_bundle.proofs.Names.{◌≡◌, ◌+◌, ◌≤◌, List, length, AllByRecursion, Run, units, FitsUnit}
use Rattle.ids_bundle.proofs.UnpackLemmas.{AreLeft}
use Rattle.ids_bundle.proofs.unpacking.count.Given as goal

abbrev pub invariant-loop-messages : goal.invariant-loop-messages
invariant-loop-messages l = record {
  few : l.found.units + length l.rest ≤ length l.bytes;
  left : (runs : List Run) → AllByRecursion FitsUnit runs → l.bytes ≡ units runs → AreLeft runs l.rest l.found;
}

abbrev pub decreases-loop-messages : goal.decreases-loop-messages
decreases-loop-messages l = length l.rest
