use Rattle.trace_text.proofs.Names.{◌≡◌, take, rounds_told, lines_text}
use Rattle.trace_text.proofs.printing.print.Given as goal

-- the first rounds have been printed
abbrev pub invariant-loop-round : goal.invariant-loop-round
invariant-loop-round l = l.text.items ≡ lines_text (rounds_told (take l.round l.trace.rounds))
