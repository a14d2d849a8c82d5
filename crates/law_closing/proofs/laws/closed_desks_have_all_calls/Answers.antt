-- The law is `all_calls`.
use Rattle.law_closing.proofs.ClosedLemmas.{all_calls}
use Rattle.law_closing.proofs.laws.closed_desks_have_all_calls.Goals as goal

pub returns : goal.returns
returns g c = all_calls g.closed
