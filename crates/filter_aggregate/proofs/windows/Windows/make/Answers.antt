use Rattle.filter_aggregate.proofs.Names.{◌≡◌, map, rules, fresh_slot}
use Rattle.filter_aggregate.proofs.SlotLemmas.{intervals_fresh}
use Rattle.filter_aggregate.proofs.StandsLemmas.{stands_fresh}
use Rattle.filter_aggregate.proofs.windows.Windows.make.Goals as goal

pub invariant_of-result : goal.invariant_of-result
invariant_of-result g c =
    let config = c.args.config.now in
    let fresh : c.in_ok-slots.slots.items ≡ map (λ event. fresh_slot event.aggregate) config.events = search rules in
    rw fresh (intervals_fresh config.profile config.events c.parts.ensures.valid.events)

pub returns-clause-stands_over : goal.returns-clause-stands_over
returns-clause-stands_over g c =
    let config = c.args.config.now in
    let fresh : c.in_ok-slots.slots.items ≡ map (λ event. fresh_slot event.aggregate) config.events = search rules in
    rw fresh (stands_fresh g.B.Parcel.held config)
