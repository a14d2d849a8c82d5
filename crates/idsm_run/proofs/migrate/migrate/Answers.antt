use Rattle.cmd_steps.proofs.Names.{Parts, gives, migrate, migrates, pair_of, reading_of, refl}
use Rattle.idsm_run.proofs.TaskLemmas.{come, unread}
use Rattle.idsm_run.proofs.migrate.migrate.Goals as goal

pub returns-in_err-config : goal.returns-in_err-config
unfolding reading_of
returns-in_err-config g c =
    let next = λ (config : Parts). gives (migrates c.args.names.target.now config) in
    unread _ (migrate (pair_of c.args.names)) _ _ next refl _ _ c.from_residual.ensures.1 c.in_err-config.ensures

pub returns : goal.returns
unfolding reading_of
returns g c =
    let names = pair_of c.args.names in
    let made = c.in_ok-made.ensures in
    c.write_made.ensures (migrate names) _ _
    (record { read = come _ (migrate names) _ _ (λ (config : Parts). migrates names.target config) refl _ c.in_ok-config.ensures; writes = refl })
    (record { work_is = rw (made.0, made.2) refl; reads_back = rw made.0 at made.1 })
