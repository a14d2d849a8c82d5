use Rattle.event_chain.proofs.Names.{StandsWatched, subst, sym}
use Rattle.event_chain.proofs.ClosingLemmas.{none_due}
use Rattle.event_chain.proofs.event_chain.EventChain.closes.Goals as goal

pub returns : goal.returns
returns g c = λ config turns stands.
    let own = subst (StandsWatched g.B.Parcel.held g.W.Witness.knows config turns) (sym c.self.view_is) stands in
    rw (c.any_due.ensures, c.deref.ensures.value)
    (none_due g.B.Parcel.held config turns c.args.tick c.self.inside.way.windows c.self.inside.aggregating.items own.way.at.windows
    c.self.invariant.aggregating)
