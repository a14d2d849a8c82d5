use Rattle.journal.proofs.Names.{◌≡◌, ◌+◌, take, entry_by}
use Rattle.journal.proofs.LengthLemmas.{most_in}
use Rattle.journal.proofs.lengths.turn_fits.Given as goal

-- what the head and the first entries take, and what is left, are the room
abbrev pub invariant-loop-entry : goal.invariant-loop-entry
invariant-loop-entry g l = l.left + (67 + most_in (entry_by g.B.Parcel.held) (take l.entry-index l.items)) ≡ l.fn.room
