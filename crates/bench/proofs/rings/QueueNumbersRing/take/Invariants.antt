use Rattle.report_queue.specs.Parts.{IsTakerOf}
use Rattle.bench.proofs.rings.QueueNumbersRing.take.Given as goal

abbrev pub invariant-loop : goal.invariant-loop
invariant-loop l = IsTakerOf l.self l.taker
