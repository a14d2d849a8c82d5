use Rattle.idsm_c.proofs.Names.{◌≡◌, ◌++◌, ◌≤◌, length, All, IsFit, Some, contents_of, roles_in}
use Rattle.std.proofs.Common.{drop, map}
use Rattle.idsm_c.proofs.making.put_all.Given as goal

-- the last roles are put, and the others are fit
abbrev pub invariant-loop-role : goal.invariant-loop-role
invariant-loop-role l = (map Some (roles_in l.roles.items) ++ drop (length l.roles.items) (contents_of l.handles) ≡ map Some (roles_in l.fn.roles.items))
    × (length l.roles.items ≤ length l.handles) × All IsFit (roles_in l.roles.items)

abbrev pub decreases-loop-role : goal.decreases-loop-role
decreases-loop-role l = goal.left-loop-role l
