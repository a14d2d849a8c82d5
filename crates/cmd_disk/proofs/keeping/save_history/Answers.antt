use Rattle.cmd_disk.proofs.Names.{KeepsRows, no_call, subst}
use Rattle.cmd_disk.proofs.EndLemmas.{left_behind, none_begun, save_cause, saved_behind}
use Rattle.cmd_disk.proofs.keeping.save_history.Goals as goal

pub returns-in_default-clause-leaves : goal.returns-in_default-clause-leaves
returns-in_default-clause-leaves g c tells =
    rw c.ended_with.ensures (left_behind c.args.config.now c.args.history.now.turns (g.D.Disk.shows c.args.disk) (g.D.Disk.shows c.args.disk) _ (λ synced keeping state kept. kept)
    (no_call _ _ (λ left may. may)))

pub returns-in_default-make-clause-leaves : goal.returns-in_default-make-clause-leaves
returns-in_default-make-clause-leaves g c tells =
    rw c.ended_with-in_default-make.ensures (left_behind c.args.config.now c.args.history.now.turns (g.D.Disk.shows c.args.disk) (g.D.Disk.shows c.args.disk) _ (λ synced keeping state kept. kept)
    (no_call _ _ (λ left may. may)))

pub returns-in-Ok-begin-clause-cause : goal.returns-in-Ok-begin-clause-cause
returns-in-Ok-begin-clause-cause g c =
    let shows = g.D.Disk.shows in
    let begun = c.in-Ok-begin.ensures in
    let store = c.in-Ok-begin.store in
    save_cause shows c.args.disk store c.save_turns.result.disk begun.answers
    (λ tells. (c.in-Ok-begin.field-0-1, subst (λ bytes. KeepsRows bytes store.sequence c.in-Ok-begin.field-0-1) (begun.same tells) (begun.keeps tells)))
    c.save_turns.result.end c.save_turns.ensures.cause

pub returns-in-Ok-begin-clause-leaves : goal.returns-in-Ok-begin-clause-leaves
returns-in-Ok-begin-clause-leaves g c tells =
    let shows = g.D.Disk.shows in
    let begun = c.in-Ok-begin.ensures in
    let store = c.in-Ok-begin.store in
    saved_behind c.args.config.now c.args.history.now.turns (shows c.args.disk) (shows store.disk) (shows c.save_turns.result.disk)
    store.sequence c.in-Ok-begin.field-0-1 (begun.keeps tells) (begun.same tells) (begun.settled tells) (begun.any_moment tells) c.save_turns.result.end
    (c.save_turns.ensures.saved (begun.settled tells).tells)

pub returns-clause-leaves : goal.returns-clause-leaves
returns-clause-leaves g c tells =
    let fault = c.in-Err.fault in
    rw c.not_begun.ensures (none_begun c.args.config.now c.args.history.now.turns g.D.Disk.shows c.args.disk fault (c.in-Err.ensures.any_moment tells))
