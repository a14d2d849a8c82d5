use Rattle.trace_text.proofs.Names.{◌≡◌, ◌++◌, take, lines_at, caller_text, round_at}
use Rattle.trace_text.proofs.printing.push_caller.Given as goal

-- the first lines have been printed
abbrev pub invariant-loop-i : goal.invariant-loop-i
invariant-loop-i l = l.out.items ≡ l.initial.out.items ++ caller_text l.caller (take l.i (lines_at l.caller (round_at l.trace.rounds l.round)))
