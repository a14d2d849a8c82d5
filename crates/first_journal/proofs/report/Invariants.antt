use Rattle.idsm_api.specs.{IsFitCaller, IsSameCaller}
use Rattle.first_journal.proofs.report.Given as goal

abbrev pub invariant-loop : goal.invariant-loop
invariant-loop l = record { fit : IsFitCaller l.caller; same : IsSameCaller l.fn.caller l.caller }
