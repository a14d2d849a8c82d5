use Rattle.permit_ring.proofs.RuleLaws.{one_port}
use Rattle.permit_ring.proofs.laws.each_seat_has_one_port.Goals as goal

pub returns : goal.returns
returns g c = one_port g.r.rule
