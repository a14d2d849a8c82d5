use Rattle.bench.proofs.times.Bench.call.Given as goal

abbrev pub invariant-loop-round : goal.invariant-loop-round
invariant-loop-round g l = g.G.Ring.calls l.ring l.caller
