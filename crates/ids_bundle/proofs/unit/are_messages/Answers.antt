use Rattle.ids_bundle.proofs.Names.{arith, take_rest, ◌+◌, ◌-◌, decode_tells, All-drop, IsByte}
use Rattle.ids_bundle.proofs.UnitLemmas.{one_fewer, none_more}
use Rattle.ids_bundle.proofs.unit.are_messages.Goals as goal

pub returns-in_default : goal.returns-in_default
returns-in_default c =
    let inv = c.loop.invariant in
    grind (arith, inv.fewer, none_more _ _ (c.args.number - c.loop.counter) inv.are_bytes (decode_tells _ _ inv.are_bytes c.in_default.ensures))

pub slice_bounds-rest-count : goal.slice_bounds-rest-count
slice_bounds-rest-count c = (decode_tells _ _ c.loop.invariant.are_bytes c.in-Ok.ensures).few

pub slice_bounds-rest-start : goal.slice_bounds-rest-start
slice_bounds-rest-start c = (decode_tells _ _ c.loop.invariant.are_bytes c.in-Ok.ensures).few

pub loop-preserved : goal.loop-preserved
loop-preserved c =
    let inv = c.loop.invariant in
    let front = decode_tells _ _ inv.are_bytes c.in-Ok.ensures in
    let so = one_fewer _ _ _ (c.args.number - c.loop.counter) (c.args.number - (c.loop.counter + 1)) front (omega arith) in
    rw (take_rest c.loop.rest.now c.in-Ok.size) (grind (arith, so, inv, All-drop IsByte c.in-Ok.size c.loop.rest.now inv.are_bytes))
