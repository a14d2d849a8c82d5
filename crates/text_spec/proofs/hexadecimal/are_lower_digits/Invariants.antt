use Rattle.text_spec.proofs.Names.{◌≡◌, take, list_all, is_lower_digit}
use Rattle.text_spec.proofs.hexadecimal.are_lower_digits.Given as goal

-- whether the bytes so far are digits
abbrev pub invariant-loop-byte : goal.invariant-loop-byte
invariant-loop-byte l = l.all ≡ list_all is_lower_digit (take l.byte-index l.word)
