use Rattle.text_spec.proofs.Names.{◌≡◌, take, list_all, differs}
use Rattle.text_spec.proofs.pieces.ends_at_sixteen.Given as goal

-- whether none of the bytes so far is the separator
abbrev pub invariant-loop-i : goal.invariant-loop-i
invariant-loop-i l = l.free ≡ list_all (differs l.separator) (take l.i l.text)
