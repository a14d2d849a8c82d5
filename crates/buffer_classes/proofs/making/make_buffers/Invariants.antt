use Rattle.buffer_classes.proofs.Names.{◌≡◌, length, vec_capacity, AllAdmitted, IsBufferOf, class_terms}
use Rattle.buffer_classes.proofs.making.make_buffers.Given as goal

abbrev pub invariant-loop : goal.invariant-loop
invariant-loop l =
    (length l.bufs.items ≡ l.counter)
    × AllAdmitted (IsBufferOf (class_terms l.class l.spec.size)) l.bufs.items
    × (vec_capacity l.bufs ≡ l.spec.number)
