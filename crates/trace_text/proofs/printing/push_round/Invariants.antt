use Rattle.trace_text.proofs.Names.{◌≡◌, ◌++◌, take, callers_told, lines_text, round_at}
use Rattle.trace_text.proofs.printing.push_round.Given as goal

-- the lines of the first callers have been printed
abbrev pub invariant-loop-caller : goal.invariant-loop-caller
invariant-loop-caller l = l.out.items ≡ l.initial.out.items ++ lines_text (callers_told 0 (take l.caller (round_at l.trace.rounds l.round).lines))
