use Rattle.trace_replay.proofs.Names.{[], length, losses_by, passes_of, vec_capacity, vec_len, ◌++◌, ◌+◌, ◌≡◌, ◌≤◌}
use Rattle.trace_replay.proofs.callers.callers_of.Given as goal

-- the callers of the first passes are there, and there is room for the others
abbrev pub invariant-loop-pass : goal.invariant-loop-pass
invariant-loop-pass l = goal.iterator-loop-pass.can_next l.pass-iterator × goal.iterator-loop-pass.is_finite l.pass-iterator
    × (passes_of l.callers.items ++ l.pass-iterator.rest.items ≡ l.fn.passes.items) × (losses_by l.callers.items ≡ [])
    × (vec_len l.callers + length l.pass-iterator.rest.items ≤ vec_capacity l.callers)
