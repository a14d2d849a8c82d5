use Rattle.cmd_steps.proofs.Names.{Recorded, ap, arith, does, files_of, fold, fold_work, gives, length-reverse, names_of, reading_of, refl}
use Rattle.idsm_run.proofs.TaskLemmas.{come, unread}
use Rattle.idsm_run.proofs.fold.fold.Goals as goal

pub returns-in_err-inputs : goal.returns-in_err-inputs
unfolding reading_of
returns-in_err-inputs g c =
    let next = λ (own : Recorded). gives (does (fold_work (files_of c.args.names) own.config own.told.turns)) in
    unread _ (fold (files_of c.args.names)) _ _ next refl _ _ c.from_residual.ensures.1 c.in_err-inputs.ensures.reads

pub returns : goal.returns
unfolding reading_of
returns g c =
    let names = files_of c.args.names in
    let folded = c.in_ok-inputs.inputs.journal.folded in
    c.write_work.ensures.ends (fold names) _ _
    (record {
      read = come _ (fold names) _ _ (λ (own : Recorded). does (fold_work names own.config own.told.turns)) refl _ c.in_ok-inputs.ensures.reads;
      writes = ap names_of c.new_files.ensures.files;
    })
    (grind (arith, c.in_ok-inputs.ensures.folds, length-reverse folded.memory.rows, c.in_ok-memory.ensures, c.in_ok-line.ensures))
