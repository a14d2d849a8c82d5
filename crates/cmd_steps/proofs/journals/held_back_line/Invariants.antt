use Rattle.cmd_steps.proofs.Names.{◌≡◌, ◌+◌, ◌∷◌, length, entries_of, held_back_line}
use Rattle.cmd_steps.proofs.journals.held_back_line.Given as goal

abbrev pub decreases-loop-head : goal.decreases-loop-head
decreases-loop-head l = length l.turns

-- the turns before tell the numbers that are due, and the next turn's line has this number
abbrev pub invariant-loop-head : goal.invariant-loop-head
invariant-loop-head l = record {
  same : held_back_line 1 (0 ∷ l.limited) l.history.turns ≡ held_back_line l.line (l.due ∷ l.numbers) l.turns;
  line : l.line + (length l.turns + length (entries_of l.turns))
      ≡ 1 + (length l.history.turns + length (entries_of l.history.turns));
}
