use Rattle.idsm_c.proofs.Names.{◌≡◌, false, take, contents_of, is_taken}
use Rattle.idsm_c.proofs.making.is_any_taken.Given as goal

-- no handle has changed, and the first ones have nothing
abbrev pub invariant-loop-i : goal.invariant-loop-i
invariant-loop-i l = (contents_of l.handles ≡ contents_of l.fn.handles) × (is_taken (take l.i (contents_of l.handles)) ≡ false)
