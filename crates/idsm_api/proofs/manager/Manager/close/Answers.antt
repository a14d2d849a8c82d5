use Rattle.idsm_api.proofs.ClosingLemmas.{never_refused}
use Rattle.idsm_api.proofs.manager.Manager.close.Goals as goal

pub returns-in-Err-clause-made : goal.returns-in-Err-clause-made
returns-in-Err-clause-made c = λ may. absurd (never_refused c.in-Err.refusal may c.in-Err.ensures.err)
