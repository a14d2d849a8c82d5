use Rattle.idsm_api.proofs.Names.{◌≡◌, ◌+◌, ◌≤◌, length, arc_value, All, Caller, caller_shares, ◌++◌, vec_len, vec_capacity}
use Rattle.idsm_api.specs.Making.{passes_of}
use Rattle.idsm_api.proofs.making.callers_of.Given as goal

-- the callers of the first passes are there, each with what is shared, and there is room for the others
abbrev pub invariant-loop-pass : goal.invariant-loop-pass
invariant-loop-pass l = goal.iterator-loop-pass.can_next l.pass-iterator × goal.iterator-loop-pass.is_finite l.pass-iterator
    × (passes_of l.callers.items ++ l.pass-iterator.rest.items ≡ l.fn.passes.items)
    × All (λ (caller : Caller). caller_shares caller ≡ arc_value l.shared) l.callers.items
    × (vec_len l.callers + length l.pass-iterator.rest.items ≤ vec_capacity l.callers)
