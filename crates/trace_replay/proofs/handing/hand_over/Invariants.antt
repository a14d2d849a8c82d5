use Rattle.trace_replay.proofs.Names.{AreAtRest, length, ◌≤◌}
use Rattle.trace_replay.proofs.handing.hand_over.Given as goal

-- the callers that are still here are the first ones
abbrev pub invariant-loop-caller : goal.invariant-loop-caller
invariant-loop-caller g l = AreAtRest l.stage.shared.now l.stage.trace.now.rounds l.round l.callers.items × (length l.callers.items ≤ l.stage.trace.now.callers)

abbrev pub decreases-loop-caller : goal.decreases-loop-caller
decreases-loop-caller g l = length l.callers.items
