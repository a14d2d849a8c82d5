use Rattle.report_queue.proofs.Names.{at_end, arith, sym, ◌∙◌, Got, caller_memo, item_by, ticket_in}
use Rattle.report_queue.proofs.seat.QueueSeat.fill.Goals as goal

pub returns-clause-mine : goal.returns-clause-mine
returns-clause-mine g c =
    let was = c.requires.mine in
    let old = caller_memo c.args.self.now in
    let place = at_end old.log (Got (ticket_in old.view.held) (item_by old (g.P.Cargo.note c.args.payload))) in
    grind (arith, was, c.requires.busy, c.finish.ensures, place, c.number.ensures, c.calls.ensures)

pub returns-clause-small : goal.returns-clause-small
returns-clause-small g c = (rw (sym c.held.ensures ∙ c.unwrap-ticket.ensures) at c.requires.mine.is_seat.in_hand).0
