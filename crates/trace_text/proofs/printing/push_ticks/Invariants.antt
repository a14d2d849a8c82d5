use Rattle.trace_text.proofs.Names.{◌≡◌, ◌++◌, take, ticks_text}
use Rattle.trace_text.proofs.printing.push_ticks.Given as goal

-- the first ticks have been printed
abbrev pub invariant-loop-tick : goal.invariant-loop-tick
invariant-loop-tick l = l.out.items ≡ l.initial.out.items ++ ticks_text (take l.tick-index l.ticks)
