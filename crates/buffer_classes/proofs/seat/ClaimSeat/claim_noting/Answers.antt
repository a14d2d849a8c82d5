use Rattle.buffer_classes.proofs.{NoneFree, refl, arith, class_sizes, common_steps, asked_none, first_within, got, in_vain, leaves, seat_ready, many_sizes}
use Rattle.buffer_classes.proofs.seat.ClaimSeat.claim_noting.Goals as goal

pub loop-place-init : goal.loop-place-init
loop-place-init c = rw c.requires.none (grind (arith, common_steps, asked_none c.requires.mine c.args.len))

pub ask-requires : goal.ask-requires
ask-requires c =
    let ready = seat_ready c.requires.mine c.args.len c.loop-place.invariant (omega arith) _ c.index.ensures _ c.index_mut.ensures.value in
    record { mine = ready.0; few = omega (arith, c.requires.few, ready.1) }

pub loop-place-preserved : goal.loop-place-preserved
loop-place-preserved c = rw c.push.ensures (in_vain c.requires.mine c.args.len c.loop-place.invariant (omega arith) _ c.index.ensures
    _ c.index_mut.ensures.value c.ask.new.seat _ refl refl refl refl c.in-Err.claimed c.in-Err.ensures.did c.in-Err.ensures.small)

pub returns-in-Ok : goal.returns-in-Ok
returns-in-Ok c = got c.requires.mine c.args.len c.loop-place.invariant (omega arith) _ c.index.ensures _ c.index_mut.ensures.value
    c.ask.new.seat _ refl refl refl refl c.in-Ok.buf c.in-Ok.ensures.did c.in-Ok.ensures.buffer.0 c.in-Ok.ensures.buffer.1

pub returns : goal.returns
returns c =
    let is = c.loop-place.invariant in
    let many = many_sizes c.args.classes.now in
    let within = first_within c.args.len (class_sizes c.args.classes.now) in
    leaves c.requires.mine c.args.len (NoneFree c.loop-place.looks) _ is.number_is is.claims_are is.room_is is.asked (omega arith) is.small (omega arith)
