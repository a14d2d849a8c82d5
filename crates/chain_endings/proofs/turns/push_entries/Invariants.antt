use Rattle.chain_endings.proofs.Lemmas.{turn_at, ◌≡◌, ◌++◌, List, drop, map, bare, ending_of, text_of, entry_lines, endings_along, entry_moments, Moment, Left}
use Rattle.chain_endings.proofs.turns.push_entries.Given as goal

-- the first entries have been printed, and their endings are taken
abbrev pub invariant-loop-i : goal.invariant-loop-i
invariant-loop-i l =
    let turn = turn_at l.history.turns l.turn in
    let tick = turn.head.tick in
    (before : List Moment) → map ending_of l.entered ≡ map bare (endings_along l.parts before (entry_moments tick turn.entries))
    → Left l.parts tick (drop l.i turn.entries) (map ending_of l.rest) l.out.items
    (l.initial.out.items ++ text_of (entry_lines l.parts tick before turn.entries))
