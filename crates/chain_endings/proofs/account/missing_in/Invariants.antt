use Rattle.chain_endings.proofs.Lemmas.{entries_of, ◌++◌, length, Counted}
use Rattle.chain_endings.proofs.account.missing_in.Given as goal

-- the entries of the turns that were gone over are counted
abbrev pub invariant-loop-entries : goal.invariant-loop-entries
invariant-loop-entries l = Counted l.events (entries_of l.history.turns) (entries_of l.turns) l.missing.items

abbrev pub decreases-loop-entries : goal.decreases-loop-entries
decreases-loop-entries l = length l.turns

-- and those of this turn but for the rest
abbrev pub invariant-loop-entry : goal.invariant-loop-entry
invariant-loop-entry l = Counted l.events (entries_of l.history.turns) (l.rest ++ entries_of l.turns) l.missing.items

abbrev pub decreases-loop-entry : goal.decreases-loop-entry
decreases-loop-entry l = length l.rest
