use Rattle.cmd_disk.proofs.Names.{Bor, List, plain_stop, stop_of_write, recalls, refl, work_done, work_unwritten, ℕ, EndsAs, IfErr, StandsInPart, left_with, arith, take_all, recall, written_end, recall_work, codes, number_text, length, memory_text, rules, ◌≡◌}
use Rattle.cmd_disk.proofs.KeepLemmas.{recall_came}
use Rattle.cmd_disk.proofs.recalling.write_records.Goals as goal

pub returns-in_err-write_files-clause-ends : goal.returns-in_err-write_files-clause-ends
returns-in_err-write_files-clause-ends g c names same =
    let old = g.H.Shelf.shows c.args.shelf.now in
    let new = g.H.Shelf.shows c.write_files.new.shelf in
    let rows = c.args.records.now in
    let bytes : c.deref.result.now ≡ memory_text rows = search rules in
    let fault = c.in_err-write_files.field-0.0 in
    let plain : plain_stop (stop_of_write {N = Bor (List ℕ)} fault) ≡ stop_of_write fault = grind arith in
    left_with (λ answer. EndsAs (recall names) (written_end answer) old new) _ fault c.from_residual-in_err-write_files.ensures.1
    (rw (← plain) (work_unwritten (recall names) (recalls names.target) old old (recall_came names old) (recall_work names.target rows)
    (record { rows = rows; work_is = refl }) refl new fault (rw (same, bytes) at c.in_err-write_files.ensures)))

pub returns-clause-ends : goal.returns-clause-ends
returns-clause-ends g c names same =
    let bytes : c.deref.result.now ≡ memory_text c.args.records.now = search rules in
    let line : c.in_ok-line.line.items ≡ number_text (codes "records ") (length c.args.records.now) = search rules in
    work_done (recall names) (recalls names.target) _ _ (recall_came names _) (recall_work names.target c.args.records.now)
    (record { rows = c.args.records.now; work_is = refl }) refl _ c.in_ok-line.line.items line (rw (same, bytes) at c.in_ok-write_files.ensures)

pub returns-in_err-write_files-clause-part : goal.returns-in_err-write_files-clause-part
returns-in_err-write_files-clause-part g c told =
    let bytes : c.deref.result.now ≡ memory_text c.args.records.now = search rules in
    left_with (λ answer. IfErr answer (λ _. StandsInPart (g.H.Shelf.shows c.args.shelf.now).files (g.H.Shelf.shows c.write_files.new.shelf).files
    (record { name = c.args.target.now; bytes = memory_text c.args.records.now }))) _ _ c.from_residual-in_err-write_files.ensures.1
    (grind (arith, (rw bytes at c.in_err-write_files.ensures).ends.1 told, take_all (length (memory_text c.args.records.now)) (memory_text c.args.records.now)))
