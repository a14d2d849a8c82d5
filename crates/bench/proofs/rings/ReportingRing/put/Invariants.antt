use Rattle.report_api.specs.Passes.{IsPassOf}
use Rattle.bench.proofs.rings.ReportingRing.put.Given as goal

abbrev pub invariant-loop : goal.invariant-loop
invariant-loop l = IsPassOf l.self.shared l.pass
