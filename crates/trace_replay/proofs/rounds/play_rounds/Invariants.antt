use Rattle.trace_replay.proofs.Names.{Plays}
use Rattle.trace_replay.proofs.rounds.play_rounds.Given as goal

-- the first rounds were played
abbrev pub invariant-loop-round : goal.invariant-loop-round
invariant-loop-round g l = Plays g.C.Chain.stands g.C.Chain.events g.C.Chain.kept l.stage.shared.now l.stage.trace.now l.round l.callers.items
    l.fn.recorder l.recorder
