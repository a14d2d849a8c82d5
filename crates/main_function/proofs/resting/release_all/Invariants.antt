use Rattle.main_function.proofs.HoldLemmas.{Releasing}
use Rattle.main_function.proofs.resting.release_all.Given as goal

-- the passes before this one went on, and the others are held
abbrev pub invariant-loop-i : goal.invariant-loop-i
invariant-loop-i g l = Releasing g.P.HasPass.its g.P.HasPass.stays l.shared l.initial.desk l.desk l.initial.passes l.passes l.i
