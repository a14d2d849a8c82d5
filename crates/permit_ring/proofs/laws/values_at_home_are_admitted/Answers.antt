use Rattle.permit_ring.proofs.RuleLaws.{values_at_home_are_admitted}
use Rattle.permit_ring.proofs.laws.values_at_home_are_admitted.Goals as goal

pub returns : goal.returns
returns g c = values_at_home_are_admitted g.r.rule c.args.position
