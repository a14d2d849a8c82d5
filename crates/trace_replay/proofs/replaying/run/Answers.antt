use Rattle.trace_replay.proofs.Names.{Gathered, ap, ◌∙◌}
use Rattle.trace_replay.proofs.RoundLemmas.{all_may_be_asked}
use Rattle.trace_replay.proofs.replaying.run.Goals as goal

pub make-requires-4-clause-asked : goal.make-requires-4-clause-asked
make-requires-4-clause-asked g c = all_may_be_asked c.args.config.now c.in_ok-shared.field-0.shared.terms
    c.in_ok-shared.ensures.manager.making.is_config c.args.trace.now.rounds c.requires.rounds.allowed

pub play-requires-clause-new : goal.play-requires-clause-new
play-requires-clause-new g c κs within = rw c.in_ok-stage.ensures.shared (record {
  manager_is = c.in_ok-shared.ensures.manager;
  no_turns = ap (λ (log : Gathered). log.history.turns) c.in_ok-shared.ensures.log ∙ c.in_ok-log.ensures;
  nothing_sent = c.in_ok-transcript.ensures;
})
