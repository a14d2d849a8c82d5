use Rattle.trace_replay.proofs.Names.{losses_by, take, ◌≡◌}
use Rattle.trace_replay.proofs.callers.part.Given as goal

-- the losses of the first callers are there
abbrev pub invariant-loop-caller : goal.invariant-loop-caller
invariant-loop-caller l = l.losses.items ≡ losses_by (take l.caller-index l.fn.callers.items)
