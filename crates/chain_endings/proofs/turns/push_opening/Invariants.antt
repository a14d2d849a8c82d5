use Rattle.chain_endings.proofs.Lemmas.{◌≡◌, ◌++◌, map, drop, ending_of, text_of, given_line}
use Rattle.chain_endings.proofs.turns.push_opening.Given as goal

-- what is printed, with the lines that are left, is all
abbrev pub invariant-loop-ending : goal.invariant-loop-ending
invariant-loop-ending l =
    l.out.items ++ text_of (map (given_line l.parts) (map ending_of (drop l.ending-index l.opening)))
    ≡ l.initial.out.items ++ text_of (map (given_line l.parts) (map ending_of l.opening))
