use Rattle.trace_replay.proofs.replaying.replay.Goals as goal

pub returns : goal.returns
returns g c = rw (c.part_log-manager.ensures.manager, c.part_log-manager.ensures.log) c.in_ok-manager.ensures
