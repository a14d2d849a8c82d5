use Rattle.permit_ring.proofs.RuleLaws.{logged_is_claimed}
use Rattle.permit_ring.proofs.laws.logged_tickets_are_claimed.Goals as goal

pub returns : goal.returns
returns g c = logged_is_claimed g.r.rule
