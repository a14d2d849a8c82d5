use Rattle.cmd_disk.proofs.Names.{Recorded, gives, keep, keeps, no_call, reading_ends, reading_of, recorded_in, refl, stops_early, keep_files_of, plain_stop}
use Rattle.cmd_steps.proofs.MadeLemmas.{work_said}
use Rattle.cmd_disk.proofs.EndLemmas.{left_behind}
use Rattle.cmd_disk.proofs.KeepLemmas.{came, kept_in_part, leaves_own, plain_kept, unread_end}
use Rattle.cmd_disk.proofs.keeping.keep.Goals as goal

pub returns-in-Err-clause-ends : goal.returns-in-Err-clause-ends
unfolding reading_of
returns-in-Err-clause-ends g c =
    let next = λ (own : Recorded). gives (keeps own.config own.told.turns) in
    rw c.ended_with.ensures (reading_ends (keep (keep_files_of c.args.names)) (plain_stop c.in-Err.stop) _ _
    (stops_early (recorded_in (keep_files_of c.args.names).from) next (plain_stop c.in-Err.stop) _ _ c.in-Err.ensures.reads))

pub returns-in-Err-clause-leaves : goal.returns-in-Err-clause-leaves
returns-in-Err-clause-leaves g c told tells own found =
    rw c.ended_with.ensures (left_behind own.config own.told.turns (g.D.Disk.shows c.args.disk) (g.D.Disk.shows c.args.disk) _ (unread_end _ _ _ (plain_stop c.in-Err.stop) c.in-Err.ensures.reads)
    (no_call _ _ (λ left may. may)))

pub returns-in_default-clause-leaves : goal.returns-in_default-clause-leaves
returns-in_default-clause-leaves g c told tells own found =
    rw c.ended_with-in_default.ensures (left_behind own.config own.told.turns (g.D.Disk.shows c.args.disk) (g.D.Disk.shows c.args.disk) _ (λ synced keeping state kept. kept)
    (no_call _ _ (λ left may. may)))

pub returns-in-Ok-end-clause-ends : goal.returns-in-Ok-end-clause-ends
returns-in-Ok-end-clause-ends g c =
    rw c.ended_with-in-Ok-end.ensures (work_said (keep (keep_files_of c.args.names)) _ _ _ _ _ (came _ _ _ _ c.in-Ok.ensures.reads) refl refl
    (rw c.turns.ensures at c.in-Ok-saved_line.ensures))

pub returns-clause-ends : goal.returns-clause-ends
returns-clause-ends g c =
    rw c.ended_with-in-Err-end.ensures (kept_in_part (keep_files_of c.args.names) _ _ _ c.in-Ok.ensures.reads c.in-Err-end.stop
    (rw c.in-Err-end.is at c.save_history-disk.ensures.stops))

pub returns-in-Ok-end-clause-leaves : goal.returns-in-Ok-end-clause-leaves
returns-in-Ok-end-clause-leaves g c told shown own found =
    rw c.ended_with-in-Ok-end.ensures (leaves_own (keep_files_of c.args.names) _ _ _ c.in-Ok.ensures.reads (g.D.Disk.shows c.args.disk)
    (g.D.Disk.shows c.save_history-disk.result.disk) told own found _ _ (λ synced keeping state kept. kept)
    (rw c.in-Ok-end.is at (c.save_history-disk.ensures.leaves shown)))

pub returns-clause-leaves : goal.returns-clause-leaves
returns-clause-leaves g c told shown own found =
    rw c.ended_with-in-Err-end.ensures (leaves_own (keep_files_of c.args.names) _ _ _ c.in-Ok.ensures.reads (g.D.Disk.shows c.args.disk)
    (g.D.Disk.shows c.save_history-disk.result.disk) told own found _ _ (plain_kept c.in-Err-end.stop)
    (rw c.in-Err-end.is at (c.save_history-disk.ensures.leaves shown)))
