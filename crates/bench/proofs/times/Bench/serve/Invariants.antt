use Rattle.bench.proofs.times.Bench.serve.Given as goal

abbrev pub invariant-loop : goal.invariant-loop
invariant-loop g l = g.G.Ring.takes l.ring l.taker
