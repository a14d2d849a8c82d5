use Rattle.first_journal.specs.Writing.{GoesOn}
use Rattle.first_journal.proofs.make_turns.Given as goal

abbrev pub invariant-loop-turns : goal.invariant-loop-turns
invariant-loop-turns l = GoesOn l.turns l.fn.manager l.fn.written l.manager l.written
