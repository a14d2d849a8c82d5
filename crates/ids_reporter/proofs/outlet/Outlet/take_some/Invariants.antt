use Rattle.ids_reporter.proofs.Names.{StaysAtWork}
use Rattle.ids_reporter.proofs.outlet.Outlet.take_some.Given as goal

abbrev pub invariant-loop : goal.invariant-loop
invariant-loop l = StaysAtWork l.relay l.sources l.initial.self l.self
