use Rattle.journal.proofs.AppendingLemmas.{Appended}
use Rattle.journal.proofs.Names.{map, decimal, join_with_byte, point}
use Rattle.journal.proofs.printing.push_claims.Given as goal

-- the first numbers have been printed
abbrev pub invariant-loop-i : goal.invariant-loop-i
invariant-loop-i l = Appended (λ numbers. join_with_byte point (map decimal numbers)) l.initial.out l.out l.numbers l.i
