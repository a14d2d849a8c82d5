use Rattle.buffer_classes.proofs.Names.{◌≡◌, vec_capacity, AreUnseated}
use Rattle.buffer_classes.proofs.making.make_claimants.Given as goal

abbrev pub invariant-loop-number : goal.invariant-loop-number
invariant-loop-number l = AreUnseated l.classes l.number l.claimants.items × (vec_capacity l.claimants ≡ l.seats)
