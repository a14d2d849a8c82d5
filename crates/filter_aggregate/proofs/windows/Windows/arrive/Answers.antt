use Rattle.filter_aggregate.proofs.Names.{◌≤◌, subst, arith, HaveIntervals}
use Rattle.filter_aggregate.proofs.StandsLemmas.{stands_arriving}
use Rattle.filter_aggregate.proofs.windows.Windows.arrive.Goals as goal

pub returns-clause-stands_over : goal.returns-clause-stands_over
returns-clause-stands_over g c = λ config moments items stands ends by.
    let few : c.args.item.count ≤ 65535 = omega arith in
    let intervals = subst HaveIntervals c.self.view_is c.self.invariant in
    stands_arriving g.B.Parcel.held config moments items c.args.self.now stands c.args.tick c.args.item c.arrive_slot.new.self c.requires.exists
    intervals c.requires.aggregates c.requires.none_due few c.arrive_slot.ensures.slots ends by
