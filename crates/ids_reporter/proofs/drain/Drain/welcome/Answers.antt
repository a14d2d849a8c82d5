use Rattle.ids_reporter.proofs.Names.{sym, subst, arith, view, IsDraining, common_steps}
use Rattle.ids_reporter.proofs.RuleLemmas.{adds_within, looks, welcomes}
use Rattle.ids_reporter.proofs.drain.Drain.welcome.Goals as goal

pub absorb-requires-clause-rule : goal.absorb-requires-clause-rule
absorb-requires-clause-rule c = welcomes _ _ _ _ _ _ c.requires.mine.drains c.requires.feeder.knows

pub learn_as-requires-clause-rule : goal.learn_as-requires-clause-rule
learn_as-requires-clause-rule c = looks _ _ (subst IsDraining (sym c.absorb.ensures.rule) tt)

pub returns-clause-mine : goal.returns-clause-mine
returns-clause-mine c =
    let within = adds_within (view c.absorb.new.pass) c.learn_as.ensures.rule.0 c.learn_as.ensures.rule.1 in
    grind (arith, common_steps, within, c.learn_as.ensures.queue, c.absorb.ensures.rule, c.requires.mine)
