use Rattle.cmd_steps.proofs.Names.{ap, replay_of}
use Rattle.cmd_steps.proofs.AnsweredLemmas.{run_ran, runs_others}
use Rattle.idsm_run.proofs.run.run_replay.Goals as goal

pub returns-in-Ok-Some-Replay-clause-ran : goal.returns-in-Ok-Some-Replay-clause-ran
returns-in-Ok-Some-Replay-clause-ran g c =
    let arm = c.in-Ok-Some-Replay in
    rw (← ap replay_of (rw (arm.field-0-is, arm.field-0-0-is) at arm.ensures.asked))
    (run_ran _ _ _ _ _ _ _ c.replay_files.result _ c.replay_files.ensures.replayed c.replay_files.ensures.ends c.tell_finished.ensures)

pub returns-in-Ok-Some-Replay-clause-others : goal.returns-in-Ok-Some-Replay-clause-others
returns-in-Ok-Some-Replay-clause-others g c = runs_others _ _ _ _ _ _ _ _ _ (returns-in-Ok-Some-Replay-clause-ran g c)
