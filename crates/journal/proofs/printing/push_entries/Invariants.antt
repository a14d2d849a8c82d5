use Rattle.journal.proofs.AppendingLemmas.{Appended}
use Rattle.journal.proofs.Names.{map, enters, lines_text, entry_by}
use Rattle.journal.proofs.printing.push_entries.Given as goal

-- the first entries have been printed
abbrev pub invariant-loop-entry : goal.invariant-loop-entry
invariant-loop-entry g l = Appended (λ entries. lines_text (map enters (map (entry_by g.B.Parcel.held) entries))) l.initial.out l.out l.items l.entry-index
