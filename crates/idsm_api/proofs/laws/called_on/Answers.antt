use Rattle.idsm_api.proofs.ClosingLemmas.{called_on as still_all}
use Rattle.idsm_api.proofs.laws.called_on.Goals as goal

pub returns : goal.returns
returns c = λ manager olds news are same. still_all are same
