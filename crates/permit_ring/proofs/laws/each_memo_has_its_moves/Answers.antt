use Rattle.permit_ring.proofs.RuleLaws.{memo_known}
use Rattle.permit_ring.proofs.laws.each_memo_has_its_moves.Goals as goal

pub returns : goal.returns
returns g c = record { seats = λ memo is. (memo_known g.r.rule memo is).moved; keeper = g.r.rule.knows.moved }
