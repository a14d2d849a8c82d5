use Rattle.trace_text.proofs.Names.{◌≡◌, drop, keep_up}
use Rattle.trace_text.proofs.ranges.keep_up.Given as goal

-- the ticks that are left decide
abbrev pub invariant-loop-tick : goal.invariant-loop-tick
invariant-loop-tick l = keep_up l.before (drop l.tick-index l.ticks) ≡ keep_up l.fn.least l.ticks
