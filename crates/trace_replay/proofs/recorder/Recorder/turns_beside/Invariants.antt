use Rattle.trace_replay.proofs.Names.{Continues, take}
use Rattle.trace_replay.proofs.recorder.Recorder.turns_beside.Given as goal

-- turns of the first ticks were made
abbrev pub invariant-loop-tick : goal.invariant-loop-tick
invariant-loop-tick g l =
    Continues g.C.Chain.stands g.C.Chain.events g.C.Chain.kept l.shared (take l.tick-index l.ticks) l.fn.self l.self
