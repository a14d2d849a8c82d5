use Rattle.ids_reporter.proofs.RuleLemmas.{takes}
use Rattle.ids_reporter.proofs.drain.Drain.try_take.Goals as goal

pub try_pop_as-requires-clause-rule : goal.try_pop_as-requires-clause-rule
try_pop_as-requires-clause-rule c = takes _ _ c.requires.mine.drains
