use Rattle.ids_reporter.proofs.RuleLemmas.{adds}
use Rattle.ids_reporter.proofs.feeder.Feeder.put_next.Goals as goal

pub try_push_as-requires-clause-rule : goal.try_push_as-requires-clause-rule
try_push_as-requires-clause-rule c = adds _ _ _ _ c.loop-tries.invariant.knows
