use Rattle.permit_ring.proofs.RuleLaws.{noted_as}
use Rattle.permit_ring.proofs.laws.each_note_is_its_tickets.Goals as goal

pub returns : goal.returns
returns g c = λ x e. let fate = g.r.rule.knows.noted c.args.ticket x e in noted_as g.r.rule c.args.ticket (fate.0, x) fate.1
