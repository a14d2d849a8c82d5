use Rattle.event_chain.proofs.Names.{ap, arith, rules, common_steps, carried_room}
use Rattle.event_chain.proofs.RoomLemmas.{message_room}
use Rattle.event_chain.proofs.way.leave.Goals as goal

pub returns-clause-leaves : goal.returns-clause-leaves
returns-clause-leaves g c = search (rules, rw c.lent.ensures at c.take-fate.ensures)

pub returns-clause-room : goal.returns-clause-room
returns-clause-room g c =
    let whole = ap (carried_room g.B.Parcel.held) c.give_back.ensures.items in
    grind (arith, common_steps, whole, c.lent.ensures, message_room g.B.Parcel.held c.args.item.context, c.take-fate.ensures.one)
