use Rattle.std.proofs.Common.{◌≡◌, ◌+◌}
use Rattle.report_queue.specs.Parts.{IsIdle, calls_of}
use Rattle.bench.proofs.rings.QueueNumbersRing.put.Given as goal

abbrev pub invariant-loop-number : goal.invariant-loop-number
invariant-loop-number l = IsIdle l.self l.seat × (calls_of l.seat ≡ calls_of l.fn.seat + l.number)
