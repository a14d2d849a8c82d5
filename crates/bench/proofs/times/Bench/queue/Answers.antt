use Rattle.report_queue.proofs.MakingLemmas.{all_unused}
use Rattle.bench.proofs.times.Bench.queue.Goals as goal

pub measure-requires-clause-callers : goal.measure-requires-clause-callers
measure-requires-clause-callers g c κs within i d low =
    let one = all_unused c.in-Ok.ensures i d low in
    (one.is_caller, one.is_idle)
