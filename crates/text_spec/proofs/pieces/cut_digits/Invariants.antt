use Rattle.text_spec.proofs.Names.{AreDigits}
use Rattle.text_spec.proofs.pieces.cut_digits.Given as goal

-- the bytes so far are digits, and this is their value
abbrev pub invariant-loop-i : goal.invariant-loop-i
invariant-loop-i l = AreDigits l.separator l.text l.i l.value
