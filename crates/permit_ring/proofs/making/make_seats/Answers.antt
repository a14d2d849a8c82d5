use Rattle.permit_ring.proofs.{arith, rules, ℕ, ap, sym, add-one, ◌∙◌, keeper_in, IsNewSeat, made_memo, splits_allowed, untouched, one_seat_more}
use Rattle.permit_ring.proofs.making.make_seats.Goals as goal

pub split_seat-seat-requires : goal.split_seat-seat-requires
split_seat-seat-requires g c =
    let is = c.loop-number.invariant in
    let made = ap (λ me. (keeper_in me.0).made) is.1 ∙ (untouched c.args.ring.now.positions c.loop-number.number).made_is in
    let test = c.loop-number-test.true in
    (is.0.at_table, search rules, splits_allowed _ _ _ _ _ _ _ is.0.keeps (omega (arith, made, test, is.0.ring_is.limit_is)))

pub loop-number-preserved : goal.loop-number-preserved
loop-number-preserved g c =
    let is = c.loop-number.invariant in
    let split = c.split_seat-seat.ensures in
    let ring = c.args.ring.now in
    let number : ℕ = c.loop-number.number in
    let was = untouched {N = g.row.F-Note.Denot} ring.positions number in
    let seat : IsNewSeat g.F.Freight.admits_offered ring number c.of.result = grind (arith, is.0, is.1, split, was, c.of.ensures) in
    let row = one_seat_more _ _ _ _ _ is.2 seat in
    let more = ap (made_memo {N = g.row.F-Note.Denot} ring.positions) (sym (add-one number)) in
    grind (arith, is, split, more, row, c.push_reserved.ensures, c.loop-number-test.true)
