use Rattle.permit_ring.proofs.{rules, seat_in, sym, ◌∙◌, arith, common_steps, look_ready, claim_ready}
use Rattle.permit_ring.proofs.seat.Seat.claim.Goals as goal

pub load-number-requires : goal.load-number-requires
load-number-requires g c =
    let mine = c.requires.mine in
    let ready = look_ready _ _ _ _ _ _ _ _ mine.sitting.sits (grind (arith, common_steps, c.requires)) (grind (arith, c.requires)) in
    (mine.sitting.at_table, search rules, ready)

pub fetch_add-number-requires : goal.fetch_add-number-requires
fetch_add-number-requires g c =
    let sitting = c.requires.mine.sitting in
    let looked = c.load-number.ensures in
    let ring = sitting.ring_is in
    let word = c.unpack-seen.ensures.word in (
      looked.0 ∙ sitting.at_table,
      search rules,
      claim_ready _ _ _ _ _ _ _ (seat_in c.load-number.new.seat.me.0) (grind (arith, common_steps, sitting, looked)) (ring.slots_are ∙ sym ring.positions_are)
          (grind (arith, common_steps, sitting, looked, word, c.if-seen-eq0.false)),
    )
