use Rattle.journal.proofs.Names.{◌≡◌, ◌++◌, take, map, turn_at, enters, lines_text}
use Rattle.journal.proofs.printing.push_turn.Given as goal

-- the first entries have been printed
abbrev pub invariant-loop-i : goal.invariant-loop-i
invariant-loop-i l = l.out.items ≡ l.initial.out.items ++ lines_text (map enters (take l.i (turn_at l.history.turns l.turn).entries))
