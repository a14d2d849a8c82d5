use Rattle.idsm_c.proofs.Names.{◌≡◌, ◌+◌, ◌≤◌, ◌++◌, length, caller_roles, roles_in, vec_len, vec_capacity}
use Rattle.idsm_c.proofs.making.boxed_callers.Given as goal

-- the first callers are boxed, and there is room for the others
abbrev pub invariant-loop-caller : goal.invariant-loop-caller
invariant-loop-caller l = goal.iterator-loop-caller.can_next l.caller-iterator × goal.iterator-loop-caller.is_finite l.caller-iterator
    × (roles_in l.boxes.items ++ caller_roles l.caller-iterator.rest.items ≡ caller_roles l.fn.callers.items)
    × (vec_len l.boxes + length l.caller-iterator.rest.items ≤ vec_capacity l.boxes)
