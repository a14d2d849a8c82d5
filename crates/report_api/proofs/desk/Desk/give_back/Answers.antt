use Rattle.report_api.proofs.Names.{arith, desk_memo, to_give_back, gave_of, queue_seats}
use Rattle.report_api.proofs.TiedLemmas.{claimants_back, stood, tied_given}
use Rattle.report_api.proofs.desk.Desk.give_back.Goals as goal

pub returns-clause-mine : goal.returns-clause-mine
returns-clause-mine c =
    let desk = c.args.self.now in
    let queue = c.args.shared.now.queue in
    let gave = gave_of (queue_seats queue) (to_give_back desk) (desk_memo desk) _ c.give_back.ensures.told in
    let tied = tied_given c.requires.mine.tied c.give.ensures.gave in
    grind (arith, c.requires.mine, c.give_back.ensures.mine, c.give.ensures.mine, gave.back_is, tied)

pub returns-clause-settled : goal.returns-clause-settled
returns-clause-settled c all i giver at =
    let was = stood c.requires.mine.tied c.give.ensures.gave i giver at in
    was.2.settled (claimants_back c.requires.mine.tied all i was.0 was.1)
