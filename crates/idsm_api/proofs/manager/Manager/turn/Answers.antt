use Rattle.idsm_api.proofs.ClosingLemmas.{never_refused}
use Rattle.idsm_api.proofs.manager.Manager.turn.Goals as goal

pub returns-in-Ok-clause-callers : goal.returns-in-Ok-clause-callers
returns-in-Ok-clause-callers c = λ callers are. rw c.step.ensures.made.same (record { all = are.all; each = are.each })

pub returns-in-Err-clause-made : goal.returns-in-Err-clause-made
returns-in-Err-clause-made c = λ may. absurd (never_refused c.in-Err.refusal may c.in-Err.ensures.err)
