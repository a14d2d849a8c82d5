use Rattle.event_chain.proofs.Names.{[], length, map, take, head_moment, with_all, head_told, Leads}
use Rattle.event_chain.proofs.Going.{Goes}
use Rattle.event_chain.proofs.way.Way.take_heads.Given as goal

-- the first heads came
abbrev pub invariant-loop-i : goal.invariant-loop-i
invariant-loop-i g l =
    record {
      behind : Leads g.B.Parcel.held g.W.Witness.knows l.tick (λ config moments. with_all moments (map (head_moment l.tick) (map head_told (take l.i l.heads))))
          l.fn.self l.self l.fn.out l.out;
      goes : Goes g.B.Parcel.held l.tick (length l.heads) l.i [] [] l.fn.self l.self l.fn.back l.back l.fn.out l.out;
    }
