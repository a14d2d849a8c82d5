use Rattle.event_chain.proofs.Names.{None, ◌≡◌, [], length, arith, map, ap, EventIndex, drop_all, drop_more, get_or_past, fresh_slot, common_steps, length-map, IsShort, slot_by}
use Rattle.filter_chain.proofs.ParcelLemmas.{parcels_keep}
use Rattle.event_chain.proofs.ClosingLemmas.{ClosedTo, closed_more, closed_skip, reached_from, reached_next}
use Rattle.event_chain.proofs.Going.{goes_more, goes_none}
use Rattle.event_chain.proofs.way.Way.close_all.Goals as goal

pub loop-event-init : goal.loop-event-init
loop-event-init g c =
    let way = c.args.self.now in
    let out = c.args.out.now in
    let goes = goes_none {tick = c.args.tick} c.requires.left in
    record {
      closed = rw c.requires.events (reached_from (ClosedTo g.B.Parcel.held g.W.Witness.knows c.args.tick way out way out)
          (closed_skip g.met.W.Witness.silent goes.stays.windows) 0 (length way.windows) (omega arith)
          (record { behind = λ config start moments behind. behind; settled = λ k less. absurd (omega arith) }));
      goes = goes;
    }

pub close-requires-clause-event : goal.close-requires-clause-event
close-requires-clause-event g c =
    let next = drop_more c.args.events.now c.loop-event.event-index (record { 0 = 0 }) c.loop-event-test.true in
    let own = rw (ap (map (λ (event : EventIndex). event.0)) next) at c.loop-event.invariant.closed in
    omega (arith, own.0, c.loop-event.invariant.goes.stays.windows.events)

pub close-requires-clause-short : goal.close-requires-clause-short
close-requires-clause-short g c =
    (parcels_keep (IsShort g.B.Parcel.held) [] _ _ _ _ (λ k d less. absurd (omega arith)) c.requires.short c.loop-event.invariant.goes.parcels).1

pub loop-event-preserved : goal.loop-event-preserved
loop-event-preserved g c =
    let Closed = ClosedTo g.B.Parcel.held g.W.Witness.knows c.args.tick c.args.self.now c.args.out.now in
    let all = c.loop-event.invariant in
    let close = c.close.ensures in
    let goes = goes_more [] [] all.goes 1 (omega (arith, c.loop-event-test.true)) close.moved in
    let next = drop_more c.args.events.now c.loop-event.event-index _ c.loop-event-test.true in
    record {
      closed = reached_next (Closed c.close.new.self c.close.new.out) (closed_skip g.met.W.Witness.silent goes.stays.windows)
          (Closed c.loop-event.self c.loop-event.out) (ap (map (λ (event : EventIndex). event.0)) next) all.closed
          (λ less. closed_more _ close.behind close.moved.stays.windows.settled close.settled);
      goes = goes;
    }

pub returns-clause-behind : goal.returns-clause-behind
returns-clause-behind g c config start moments behind =
    let all = rw (drop_all c.loop-event.event-index c.args.events.now c.loop-event-test.false) at c.loop-event.invariant.closed in
    let count = length-map c.args.self.now.windows (slot_by g.B.Parcel.held) in
    let same : length config.events ≡ length c.args.self.now.windows = omega (arith, count, behind.at.windows.events) in
    rw same (all.behind config start moments behind)

pub returns-clause-settled : goal.returns-clause-settled
returns-clause-settled g c =
    let all = rw (drop_all c.loop-event.event-index c.args.events.now c.loop-event-test.false) at c.loop-event.invariant.closed in
    let count = c.loop-event.invariant.goes.stays.windows.events in
    λ k. grind (arith, common_steps, all.settled k, count, get_or_past c.loop-event.self.windows k (fresh_slot None))
