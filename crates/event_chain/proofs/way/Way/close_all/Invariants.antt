use Rattle.event_chain.proofs.Names.{[], length, map, drop, is_aggregated}
use Rattle.event_chain.proofs.ClosingLemmas.{ClosedTo, Reached}
use Rattle.event_chain.proofs.Going.{Goes}
use Rattle.event_chain.proofs.way.Way.close_all.Given as goal

-- the first events closed
abbrev pub invariant-loop-event : goal.invariant-loop-event
invariant-loop-event g l =
    let old = l.fn.self in
    record {
      closed : Reached (is_aggregated old.windows) (length old.windows) (ClosedTo g.B.Parcel.held g.W.Witness.knows l.tick old l.fn.out l.self l.out)
          (map (λ event. event.0) (drop l.event-index l.events));
      goes : Goes g.B.Parcel.held l.tick (length l.events) l.event-index [] [] old l.self l.fn.back l.back l.fn.out l.out;
    }
