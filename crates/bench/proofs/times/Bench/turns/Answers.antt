use Rattle.report_api.proofs.MakingLemmas.{all_passes}
use Rattle.bench.proofs.times.Bench.turns.Goals as goal

pub alone-requires-clause-callers : goal.alone-requires-clause-callers
alone-requires-clause-callers g c κs within = rw c.deref_mut.ensures.value (all_passes c.in-Ok.ensures.manager.making)
