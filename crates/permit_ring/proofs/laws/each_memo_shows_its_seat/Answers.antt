use Rattle.permit_ring.proofs.RuleLaws.{memo_known}
use Rattle.permit_ring.proofs.laws.each_memo_shows_its_seat.Goals as goal

pub returns : goal.returns
returns g c = λ memo is. (memo_known g.r.rule memo is).shows
