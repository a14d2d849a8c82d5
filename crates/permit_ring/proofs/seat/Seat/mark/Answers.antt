use Rattle.permit_ring.proofs.{rules, mark_ready}
use Rattle.permit_ring.proofs.seat.Seat.mark.Goals as goal

pub fetch_add-requires : goal.fetch_add-requires
fetch_add-requires g c =
    let sitting = c.requires.mine.sitting in
    (sitting.at_table, search rules, mark_ready _ _ _ _ _ _ _ _ sitting.sits c.args.kind c.requires.kind c.requires.few)
