use Rattle.buffer_classes.proofs.{◌≡◌, [], arith, sym, refl, append-nil, at_index, GetsOne, there, some, common_steps, get_elem?, all_from, last_taken, none_from}
use Rattle.buffer_classes.proofs.making.hand_out.Goals.{After-index_mut}
use Rattle.buffer_classes.proofs.making.hand_out.Goals as goal

pub loop-seat-init : goal.loop-seat-init
loop-seat-init c = (([], sym (append-nil c.args.seats.items)), none_from (omega (arith, c.requires.as_many)))

-- the claimant whose seat is next
its : (c : After-index_mut) → get_elem? c.loop-seat.claimants.items c.len.result ≡ some c.index_mut.result.now
its c = at_index c.loop-seat.claimants.items c.len.result c.index_mut.result.now (grind (arith, common_steps)) c.index_mut.ensures.value

pub push_reserved-requires : goal.push_reserved-requires
push_reserved-requires c =
    let old = there c.args.claimants.now.items c.len.result (grind (arith, common_steps, c.requires.as_many)) in
    let here = its (goal.at.push_reserved-requires c).After-index_mut in
    grind (arith, common_steps, c.loop-seat.invariant.1.each c.len.result, here, c.requires.room c.len.result, old)

pub loop-seat-preserved : goal.loop-seat-preserved
loop-seat-preserved c =
    let was = c.loop-seat.invariant in
    last_taken GetsOne c.pop.new.self.items was.0.0 c.in-Some.seat c.in-Some.ensures.items was.0.1 c.len.result c.index_mut.result.now _
    (omega (arith, c.len.ensures)) (its (goal.at.loop-seat-preserved c).After-index_mut) was.1
    (c.push_reserved.ensures.items, c.push_reserved.ensures.capacity, refl, refl)

pub returns : goal.returns
returns c = all_from c.loop-seat.invariant.1 (omega (arith, c.in_default.ensures.cases.0))
