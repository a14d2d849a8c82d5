use Rattle.permit_ring.proofs.RuleLaws.{records_rise}
use Rattle.permit_ring.proofs.laws.logs_are_in_order.Goals as goal

pub returns : goal.returns
returns g c = records_rise g.r.rule
