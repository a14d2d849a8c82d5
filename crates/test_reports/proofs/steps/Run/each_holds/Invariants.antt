use Rattle.test_reports.specs.Running.{IsRunning}
use Rattle.test_reports.proofs.steps.Run.each_holds.Given as goal

abbrev pub invariant-loop-line : goal.invariant-loop-line
invariant-loop-line g l = IsRunning g.C.Chain.events g.C.Chain.kept l.self.classes l.self.made
