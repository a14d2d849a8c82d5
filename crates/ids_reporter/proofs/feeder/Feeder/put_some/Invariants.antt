use Rattle.ids_reporter.proofs.Names.{◌-◌, IsFeeding, number_of}
use Rattle.ids_reporter.proofs.feeder.Feeder.put_some.Given as goal

abbrev pub invariant-loop-self : goal.invariant-loop-self
invariant-loop-self g l = IsFeeding l.relay (number_of l.initial.self) l.messages l.self

abbrev pub decreases-loop-self : goal.decreases-loop-self
decreases-loop-self g l = l.messages - l.self.puts
