use Rattle.trace_replay.proofs.Names.{AreAtRest, length, ◌+◌, ◌≡◌}
use Rattle.trace_replay.proofs.handing.take_back.Given as goal

-- the first callers are back
abbrev pub invariant-loop-i : goal.invariant-loop-i
invariant-loop-i g l = AreAtRest l.stage.shared.now l.stage.trace.now.rounds (l.round + 1) l.callers.items × (length l.callers.items ≡ l.i)
