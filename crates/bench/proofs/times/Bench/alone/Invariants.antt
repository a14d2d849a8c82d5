use Rattle.bench.proofs.times.Bench.alone.Given as goal

abbrev pub invariant-loop-2 : goal.invariant-loop-2
invariant-loop-2 g l = g.G.Ring.calls l.ring l.caller × g.G.Ring.takes l.ring l.taker

abbrev pub invariant-loop : goal.invariant-loop
invariant-loop g l = g.G.Ring.calls l.ring l.caller × g.G.Ring.takes l.ring l.taker
