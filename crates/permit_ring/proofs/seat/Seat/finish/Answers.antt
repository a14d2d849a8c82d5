use Rattle.permit_ring.proofs.{rules, ap, ◌∙◌, Offered, machine_ticket, finish_ready}
use Rattle.permit_ring.proofs.seat.Seat.finish.Goals as goal

pub exchange-old-requires : goal.exchange-old-requires
exchange-old-requires g c =
    let hand = (rw c.unwrap-ticket.ensures at c.requires.mine.in_hand).1 in
    let is = c.position_of-position.ensures in
    (c.requires.mine.sitting.at_table, (Offered hand.0, cc))

pub store-requires : goal.store-requires
store-requires g c =
    let mine = c.requires.mine in
    let put = c.exchange-old.ensures in
    let held = mine.ticket_is ∙ ap machine_ticket c.unwrap-ticket.ensures in
    let ready = finish_ready _ _ _ _ _ _ c.args.self.now.place.me _ mine.sitting.sits put.3 c.position_of-position.ensures
    mine.sitting.ring_is.positions_are held c.requires.admitted in
    (put.0 ∙ mine.sitting.at_table, search rules, ready)
