use Rattle.event_chain.proofs.Names.{◌≤◌, [], length, sym, ◌∙◌, arith, take_all, take_more, map-append, with_all-append}
use Rattle.std.proofs.lemmas.Option.{get_or_from_slice_get, slice_get_cases, slice_get_within}
use Rattle.event_chain.proofs.Going.{goes_more}
use Rattle.event_chain.proofs.way.Way.take_heads.Goals as goal

pub unwrap-head-requires : goal.unwrap-head-requires
unwrap-head-requires g c =
    grind (arith, slice_get_cases c.args.heads.now c.loop-i.i, c.get.ensures, c.loop-i-test.true, c.len-i-end.ensures)

pub take-requires-clause-event : goal.take-requires-clause-event
take-requires-clause-event g c =
    let own = c.requires.events c.loop-i.i c.unwrap-head.result in
    grind (arith, slice_get_cases c.args.heads.now c.loop-i.i, own, c.get.ensures, c.unwrap-head.ensures, c.loop-i.invariant.goes.stays.windows.events)

pub loop-i-preserved : goal.loop-i-preserved
loop-i-preserved g c =
    let heads = c.args.heads.now in
    let i = c.loop-i.i in
    let head = c.unwrap-head.result in
    let all = c.loop-i.invariant in
    let came = c.take.ensures in
    let there = sym c.get.ensures ∙ c.unwrap-head.ensures in
    let low = slice_get_within heads i head there in
    record {
      behind = λ config start moments behind.
          rw (take_more heads i head low, get_or_from_slice_get heads i head head there, map-append, map-append, with_all-append)
          (came.behind config start _ (all.behind config start moments behind));
      goes = goes_more [] [] all.goes 1 (omega (arith, low)) came.moved;
    }

pub returns-clause-behind : goal.returns-clause-behind
returns-clause-behind g c config start moments behind =
    let past : length c.args.heads.now ≤ c.loop-i.i = omega (arith, c.loop-i-test.false, c.len-i-end.ensures) in
    rw (take_all c.loop-i.i c.args.heads.now past) at (c.loop-i.invariant.behind config start moments behind)
