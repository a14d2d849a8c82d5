use Rattle.permit_ring.proofs.LiveLaws.{turn_left}
use Rattle.permit_ring.proofs.laws.what_a_turn_leaves.Goals as goal

pub returns : goal.returns
returns g c = turn_left g.r.rule
