use Rattle.main_function.specs.Standing.{IsManagerOf}
use Rattle.bench.proofs.rings.TurningRing.take.Given as goal

abbrev pub invariant-loop : goal.invariant-loop
invariant-loop g l = IsManagerOf g.C.Chain.events g.C.Chain.kept l.self.reporting.shared l.manager
