use Rattle.main_function.proofs.HoldLemmas.{Holding}
use Rattle.main_function.proofs.resting.hold_all.Given as goal

-- the passes from this one on are held, and those before are as they were
abbrev pub invariant-loop-left : goal.invariant-loop-left
invariant-loop-left g l = Holding g.P.HasPass.its g.P.HasPass.stays l.shared l.initial.desk l.desk l.initial.passes l.passes l.left

abbrev pub decreases-loop-left : goal.decreases-loop-left
decreases-loop-left g l = l.left
