use Rattle.ids_reporter.proofs.Names.{StaysAtWork}
use Rattle.ids_reporter.proofs.outlet.Outlet.take_next.Given as goal

abbrev pub invariant-loop-tries : goal.invariant-loop-tries
invariant-loop-tries l = StaysAtWork l.relay l.sources l.initial.self l.self
