use Rattle.trace_replay.proofs.Names.{IsAtRest, length, lines_at, lines_before, round_at, take, vec_capacity, vec_len, ◌++◌, ◌+◌, ◌≤◌}
use Rattle.trace_replay.proofs.caller.Caller.play.Given as goal

-- the calls of the first lines of the round are made too, and there is room for the losses of the others
abbrev pub invariant-loop-i : goal.invariant-loop-i
invariant-loop-i g l =
    let lines = lines_at l.caller (round_at l.trace.rounds l.round) in
    IsAtRest l.shared l.caller (lines_before l.trace.rounds l.round l.caller ++ take l.i lines) l.self
    × (vec_len l.self.losses + length lines ≤ vec_capacity l.self.losses + l.i)
