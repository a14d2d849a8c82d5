use Rattle.event_chain.proofs.Names.{◌≡◌, drop, length, take, vec_capacity, with_all, all_parcels, Leads, entry_moments}
use Rattle.event_chain.proofs.Going.{Goes}
use Rattle.event_chain.proofs.way.Way.take_entries.Given as goal

-- the first entries entered, and the others are what they were
abbrev pub invariant-loop-i : goal.invariant-loop-i
invariant-loop-i g l =
    let held = g.B.Parcel.held in
    let items = l.fn.items.items in
    let rest = drop l.i items in
    record {
      same : drop l.i l.items.items ≡ rest;
      count : length l.items.items ≡ length items;
      behind : Leads held g.W.Witness.knows l.tick (λ config moments. with_all moments (entry_moments held l.tick (take l.i items))) l.fn.self l.self
          l.fn.out l.out;
      goes : Goes held l.tick (length items) l.i (all_parcels items) (all_parcels rest) l.fn.self l.self l.fn.back l.back l.fn.out l.out;
      room : vec_capacity l.items ≡ vec_capacity l.fn.items;
    }
