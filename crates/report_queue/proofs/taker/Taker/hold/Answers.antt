use Rattle.report_queue.proofs.CallerLemmas.{welcomed}
use Rattle.report_queue.proofs.taker.Taker.hold.Goals as goal

pub returns-clause-told : goal.returns-clause-told
returns-clause-told g c =
    let did = c.hold.ensures in
    welcomed _ _ _ _ c.requires.mine c.requires.seat did.mine did.told did.counts
