use Rattle.buffer_classes.proofs.Names.{arith, filled_of, keeper_memo, ring_seats, OffersAll, giver_memo, at_snoc, gave_of}
use Rattle.buffer_classes.proofs.giver.Giver.offer.Goals as goal

pub returns-clause-mine : goal.returns-clause-mine
returns-clause-mine c =
    let did = c.offer.ensures in
    let was = c.requires.mine in
    let told : OffersAll (ring_seats c.args.ring.now) (filled_of c.args.self.now.keeper) (giver_memo c.args.self.now)
    (keeper_memo c.offer.new.self) = (λ none. (did.none none).1, λ some. (c.offer.result, omega (arith, did.bound, was.is_keeper), did.told some)) in
    grind (arith, was, did.mine, did.counts, gave_of _ _ _ _ told, at_snoc (giver_memo c.args.self.now).fronts)
