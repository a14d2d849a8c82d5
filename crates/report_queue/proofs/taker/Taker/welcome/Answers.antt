use Rattle.report_queue.proofs.CallerLemmas.{welcomed}
use Rattle.report_queue.proofs.taker.Taker.welcome.Goals as goal

pub returns : goal.returns
returns g c =
    let did = c.welcome.ensures in
    welcomed _ _ _ _ c.requires.mine c.requires.seat did.mine did.told did.counts
