use Rattle.ids_reporter.proofs.Names.{common_steps, arith}
use Rattle.ids_reporter.proofs.RuleLemmas.{looks, none_left, takes}
use Rattle.ids_reporter.proofs.drain.Drain.take.Goals as goal

pub pop_as-pair-requires-clause-rule : goal.pop_as-pair-requires-clause-rule
pop_as-pair-requires-clause-rule g c = (takes _ _ c.requires.mine.drains, looks _ _ c.requires.mine.drains)

pub returns-clause-all : goal.returns-clause-all
returns-clause-all g c = grind (arith, common_steps, none_left)
