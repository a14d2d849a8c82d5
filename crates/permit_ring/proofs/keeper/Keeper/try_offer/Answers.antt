use Rattle.permit_ring.proofs.{arith, rules, hand_offered, ready_is, offer_ready}
use Rattle.permit_ring.proofs.keeper.Keeper.try_offer.Goals as goal

pub compare_exchange-found-requires : goal.compare_exchange-found-requires
compare_exchange-found-requires g c =
    let f = g.F.Freight in
    let keeper = c.args.self.now in
    let mine = c.requires.mine in (
      mine.keeping.at_table,
      search rules,
      offer_ready f.note f.admits_offered f.admits_note c.args.ring.now.table.shared.key _ _ _ _ mine.keeping.keeps c.pack-old.result
          c.pack-new.result keeper.filled keeper.vacant
          (grind (arith, mine, c.requires.some, c.pack-old.ensures.number, c.pack-new.ensures.number)),
    )

pub returns-then-found-old : goal.returns-then-found-old
returns-then-found-old g c =
    let mine = c.requires.mine in
    let tried = c.compare_exchange-found.ensures in
    grind (arith, mine, tried.0, tried.2.1 c.if-found-old.true, ready_is mine.in_hand, c.unpack-self.ensures)

pub returns : goal.returns
returns g c =
    let mine = c.requires.mine in
    let tried = c.compare_exchange-found.ensures in
    grind (arith, mine, tried.0, tried.2.0 c.if-found-old.false, ready_is mine.in_hand, hand_offered mine.in_hand)
