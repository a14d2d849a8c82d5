use Rattle.permit_ring.proofs.Orders.{all_got, counted, in_order}
use Rattle.permit_ring.proofs.laws.tickets_are_in_the_order_of_claims.Goals as goal

pub returns : goal.returns
returns g c = record { counted = counted g.r.rule; all = all_got g.r.rule; order = in_order g.r.rule }
