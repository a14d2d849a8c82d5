use Rattle.permit_ring.proofs.{arith, ◌∙◌, [], refl, mod-eq_of_lt, KeepsInHand, add-mod_right, none_filled, opens_running, untouched}
use Rattle.permit_ring.proofs.making.make.Goals as goal

pub new-requires : goal.new-requires
new-requires g c =
    opens_running _ _ _ _ _ _ c.args.load.items (assumption (c.requires.positions, c.requires.seats)) c.requires.load.0 c.in_ok-slots.ensures c.requires.load.1
    (c.as_slice.ensures.value ∙ c.in_ok-words.ensures)

pub returns : goal.returns
returns g c =
    let made = c.in_ok-seats.ensures in
    let n = c.args.n in
    let is = untouched {N = g.row.F-Note.Denot} n c.args.seats in
    let hand : KeepsInHand {D = g.row.F-Finished.Denot} (g.F.Freight.admits_offered c.args.terms) n n 0 0 [] = none_filled refl in
    let first = mod-eq_of_lt c.requires.positions.0 in
    grind (arith, made, c.of-keeper.ensures, is, hand, first, add-mod_right 0 n, c.requires, c.in-Ok.ensures.ok, c.in-Ok.table-is)
