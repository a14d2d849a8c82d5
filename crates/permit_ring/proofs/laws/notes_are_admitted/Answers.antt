use Rattle.permit_ring.proofs.RuleLaws.{fate_of}
use Rattle.permit_ring.proofs.laws.notes_are_admitted.Goals as goal

pub returns-clause-logs : goal.returns-clause-logs
returns-clause-logs g c = λ memo is j t x e. (g.r.rule.are_fates.finished t memo.number x (fate_of g.r.rule memo is j t x e)).1

pub returns-clause-keeper : goal.returns-clause-keeper
returns-clause-keeper g c = λ t x e. let fate = g.r.rule.knows.noted t x e in (g.r.rule.are_fates.finished t fate.0 x fate.1).1
