use Rattle.buffer_classes.proofs.ClaimLemmas.{AskedTo}
use Rattle.buffer_classes.proofs.seat.ClaimSeat.claim_noting.Given as goal

abbrev pub invariant-loop-place : goal.invariant-loop-place
invariant-loop-place l = AskedTo l.classes l.fn.self l.len l.place l.looks l.self
