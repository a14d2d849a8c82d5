use Rattle.journal.proofs.Names.{map, ended_line, enters, fields_of, lines_text, entry_by}
use Rattle.journal.proofs.AppendingLemmas.{handed_on, one_appended, one_refused}
use Rattle.journal.proofs.PrintingLemmas.{held-push}
use Rattle.journal.proofs.printing.push_entries.Goals as goal

pub loop-entry-preserved : goal.loop-entry-preserved
loop-entry-preserved g c =
    let held = entry_by g.B.Parcel.held in
    one_appended (λ entries. lines_text (map enters (map held entries))) (λ i entry. ended_line (fields_of (enters (held entry)))) (held-push held) _ _ _ _ _ _ _
    c.loop-entry-test.true c.entry-item.is c.loop-entry.invariant c.in_ok-push_entry.ensures

pub returns-in_err-push_entry : goal.returns-in_err-push_entry
returns-in_err-push_entry g c =
    let held = entry_by g.B.Parcel.held in
    handed_on _ _ _ _ _ _ c.from_residual.ensures.1 (one_refused (λ entries. lines_text (map enters (map held entries))) (λ i entry. ended_line (fields_of (enters (held entry)))) (held-push held) _ _ _ _ _ _ _ _
    c.loop-entry-test.true c.entry-item.is c.loop-entry.invariant c.in_err-push_entry.ensures)
