use Rattle.permit_ring.proofs.RuleLaws.{memo_known}
use Rattle.permit_ring.proofs.laws.each_loss_is_at_a_front.Goals as goal

pub returns : goal.returns
returns g c = λ memo is. (memo_known g.r.rule memo is).lost_at_front
