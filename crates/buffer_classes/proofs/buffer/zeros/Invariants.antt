use Rattle.buffer_classes.proofs.Names.{◌≡◌, length, vec_capacity}
use Rattle.buffer_classes.proofs.buffer.zeros.Given as goal

abbrev pub invariant-loop : goal.invariant-loop
invariant-loop l = (length l.room.items ≡ l.counter) × (vec_capacity l.room ≡ l.n)
