use Rattle.report_queue.proofs.Names.{arith, nat_tests, common_steps, caller_memo, caller_number}
use Rattle.report_queue.proofs.CallerLemmas.{claimed, names-claim}
use Rattle.report_queue.proofs.seat.QueueSeat.claim.Goals as goal

pub returns-clause-mine : goal.returns-clause-mine
returns-clause-mine g c =
    let old = caller_memo c.args.self.now in
    let is = claimed c.args.queue.now.ring.limit old c.claim.result _ c.claim.ensures.told in
    let names = names-claim (caller_number c.args.self.now) old.log c.claim.result in
    grind (arith, c.requires.mine, c.claim.ensures, is, names, c.requires.few)

pub returns-clause-calls : goal.returns-clause-calls
returns-clause-calls g c = grind (arith, nat_tests, common_steps, c.requires.mine, c.claim.ensures)

pub returns-clause-marks : goal.returns-clause-marks
returns-clause-marks g c = grind (arith, nat_tests, common_steps, c.claim.ensures.told)
