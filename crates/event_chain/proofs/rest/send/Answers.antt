use Rattle.event_chain.proofs.Names.{append_assoc, arith, common_steps, nat_tests}
use Rattle.event_chain.proofs.rest.send.Goals as goal

pub returns-in-Sent-clause-sends : goal.returns-in-Sent-clause-sends
returns-in-Sent-clause-sends c config start past first knows known began has =
    let assoc = append_assoc start.bytes c.args.out.now.sent in
    grind (arith, nat_tests, common_steps, c.send.ensures.sent config knows known, c.in-Sent.is, began, has, assoc)
