use Rattle.permit_ring.proofs.RuleLaws.{memo_known}
use Rattle.permit_ring.proofs.laws.calls_are_decided_or_open.Goals as goal

pub returns : goal.returns
returns g c = λ memo is. (memo_known g.r.rule memo is).ordered
