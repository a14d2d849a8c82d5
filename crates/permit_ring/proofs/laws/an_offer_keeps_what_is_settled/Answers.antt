use Rattle.permit_ring.proofs.Settled.{offer_keeps_settled}
use Rattle.permit_ring.proofs.laws.an_offer_keeps_what_is_settled.Goals as goal

pub returns-clause-settled : goal.returns-clause-settled
returns-clause-settled g c = offer_keeps_settled c.args.seats c.args.count c.args.tries g.k.0 g.k.1
