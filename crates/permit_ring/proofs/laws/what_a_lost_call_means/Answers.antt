use Rattle.permit_ring.proofs.LiveLaws.{lost, not_lost}
use Rattle.permit_ring.proofs.laws.what_a_lost_call_means.Goals as goal

pub returns : goal.returns
returns g c = record { lost = lost g.r.rule; none = not_lost g.r.rule }
