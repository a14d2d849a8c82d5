use Rattle.permit_ring.proofs.{arith, there, place_from}
use Rattle.permit_ring.proofs.laws.each_ticket_has_one_place.Goals as goal

pub returns : goal.returns
returns g c = λ less.
    let fate = there g.r.rule.fates c.args.ticket (omega (arith, less, g.r.rule.are_fates)) in
    place_from g.r.rule c.args.ticket fate.0 fate.1
