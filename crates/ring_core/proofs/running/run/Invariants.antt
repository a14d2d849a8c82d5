use Rattle.ring_core.proofs.{take, opening, IsReached}
use Rattle.ring_core.proofs.running.run.Given as goal

-- the ring is what the steps so far lead to
abbrev pub invariant-loop-at : goal.invariant-loop-at
invariant-loop-at l = IsReached (opening l.n l.seats) (take l.at l.steps) l.ring
