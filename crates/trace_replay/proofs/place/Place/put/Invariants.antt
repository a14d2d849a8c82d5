use Rattle.trace_replay.proofs.Names.{StandsAt}
use Rattle.trace_replay.proofs.place.Place.put.Given as goal

-- the caller is still in hand
abbrev pub invariant-loop-looks : goal.invariant-loop-looks
invariant-loop-looks l = StandsAt l.self.slot.shared.value l.self.slot.trace.value l.self.slot.number l.hand
