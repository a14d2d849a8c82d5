use Rattle.buffer_classes.proofs.Names.{◌≡◌, length, take, vec_capacity, AreNewClasses}
use Rattle.buffer_classes.proofs.making.make.Given as goal

abbrev pub invariant-loop-spec : goal.invariant-loop-spec
invariant-loop-spec l =
    AreNewClasses (take l.spec-index l.specs) l.seats (record { classes = l.classes }) (record { givers = l.givers }) l.claimants.items
    × (vec_capacity l.classes ≡ length l.specs)
