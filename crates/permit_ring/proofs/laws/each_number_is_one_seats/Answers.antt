use Rattle.permit_ring.proofs.RuleLaws.{each_number_is_one_seats}
use Rattle.permit_ring.proofs.laws.each_number_is_one_seats.Goals as goal

pub returns : goal.returns
returns g c = each_number_is_one_seats g.r.rule c.args.seat
