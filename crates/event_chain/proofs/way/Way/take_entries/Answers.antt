use Rattle.event_chain.proofs.Names.{◌≡◌, ◌<◌, ◌+◌, ◌≤◌, ◌++◌, drop, length, option_to_list, get_or, ◌∙◌, arith, drop-set-lt, drop_more, length-set, common_steps, map-append, take_all, take_more, with_all-append, all_parcels, parcel_of}
use Rattle.event_chain.proofs.Going.{goes_left, goes_more}
use Rattle.event_chain.proofs.way.Way.take_entries.Given.{Over}
use Rattle.event_chain.proofs.way.Way.take_entries.Goals.{After-index_mut}
use Rattle.event_chain.proofs.way.Way.take_entries.Goals as goal

-- the entry is the next of those that are left, and so is its parcel
next : (g : Over) (c : After-index_mut g) → let items = c.args.items.now.items in let i = c.loop-i.i in let entry = c.index_mut.result.now in
    (i < length items) × (get_or items i entry ≡ entry) × (drop (i + 1) c.loop-i.items.items ≡ drop (i + 1) items)
    × (all_parcels (drop i items) ≡ option_to_list (parcel_of entry.act) ++ all_parcels (drop (i + 1) items))
next g c =
    let items = c.args.items.now.items in
    let i = c.loop-i.i in
    let entry = c.index_mut.result.now in
    let all = c.loop-i.invariant in
    let low : i < length items = omega (arith, c.loop-i-test.true, c.len-i-end.ensures) in
    let old = drop_more items i entry low in
    let new = drop_more c.loop-i.items.items i entry (omega (arith, low, all.count)) in
    let same : get_or items i entry ≡ entry = cc (all.same, c.index_mut.ensures.value) in
    (low, same, cc (all.same), grind (arith, common_steps, old, same))

pub enter-requires : goal.enter-requires
enter-requires g c =
    let all = c.loop-i.invariant in
    let next = next g (goal.at.enter-requires g c).After-index_mut in
    let own = option_to_list (parcel_of c.index_mut.result.now.act) in
    record {
      left = goes_left own (all_parcels (drop (c.loop-i.i + 1) c.args.items.now.items)) (rw next.3 at all.goes) 1 (omega (arith, next.0));
      settled = λ k. all.goes.stays.windows.settled k (c.requires.settled k);
      fits = rw (all.goes.stays.windows.events, ← next.1) (c.requires.acts c.loop-i.i c.index_mut.result.now next.0);
    }

pub loop-i-preserved : goal.loop-i-preserved
loop-i-preserved g c =
    let i = c.loop-i.i in
    let entry = c.index_mut.result.now in
    let items = c.args.items.now.items in
    let all = c.loop-i.invariant in
    let enter = c.enter.ensures in
    let next = next g (goal.at.loop-i-preserved g c).After-index_mut in
    let own = option_to_list (parcel_of entry.act) in
    let parcels = all_parcels (drop (i + 1) items) in
    record {
      same = drop-set-lt (i + 1) c.loop-i.items.items i _ (omega arith) ∙ next.2;
      count = length-set c.loop-i.items.items i _ ∙ all.count;
      behind = λ config start moments behind.
          rw (take_more items i entry next.0, next.1, map-append, map-append, with_all-append)
          (enter.behind config start _ (all.behind config start moments behind));
      goes = goes_more own parcels (rw next.3 at all.goes) 1 (omega (arith, next.0)) enter.moved;
      room = all.room;
    }

pub returns-clause-behind : goal.returns-clause-behind
returns-clause-behind g c config start moments behind =
    let items = c.args.items.now.items in
    let past : length items ≤ c.loop-i.i = omega (arith, c.loop-i-test.false, c.len-i-end.ensures) in
    rw (take_all c.loop-i.i items past) at (c.loop-i.invariant.behind config start moments behind)
