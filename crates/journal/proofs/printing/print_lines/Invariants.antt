use Rattle.journal.proofs.Names.{◌≡◌, ◌++◌, take, map, flat_map, loses, turn_told, lines_text}
use Rattle.journal.proofs.printing.print_lines.Given as goal

-- the first turns have been printed
abbrev pub invariant-loop-turn : goal.invariant-loop-turn
invariant-loop-turn l = l.text.items ≡ lines_text (flat_map turn_told (take l.turn l.history.turns))

-- the turns and the first losses have been printed
abbrev pub invariant-loop-loss : goal.invariant-loop-loss
invariant-loop-loss l = l.text.items ≡ lines_text (flat_map turn_told l.history.turns ++ map loses (take l.loss-index l.losses))
