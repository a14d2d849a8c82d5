use Rattle.ids_reporter.proofs.Names.{IsAt, number_of, puts_of}
use Rattle.ids_reporter.proofs.feeder.Feeder.put_next.Given as goal

abbrev pub invariant-loop-tries : goal.invariant-loop-tries
invariant-loop-tries l = IsAt l.relay (number_of l.initial.self) (puts_of l.initial.self) l.self
