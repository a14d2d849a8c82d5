use Rattle.report_queue.proofs.CallerLemmas.{gone_on}
use Rattle.report_queue.proofs.taker.Taker.release.Goals as goal

pub returns : goal.returns
returns g c =
    let did = c.release.ensures in
    gone_on _ _ _ _ c.requires.mine c.requires.held did.mine did.seat did.idle did.told did.counts
