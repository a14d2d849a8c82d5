use Rattle.buffer_classes.proofs.{◌≡◌, ◌<◌, [], refl, arith, at_index, length, sym, append-nil, givers_of, Takes, common_steps, all_from, class_there, giver_there, givers_with, last_left, last_taken, none_from}
use Rattle.buffer_classes.proofs.givers.Givers.welcome.Goals as goal

pub loop-its-init : goal.loop-its-init
loop-its-init c = (
  c.requires.mine,
  ([], sym (append-nil c.args.seat.seats.items)),
  none_from (omega (arith, c.requires.mine.all, c.requires.seat.all)),
)

pub take_back-requires : goal.take_back-requires
take_back-requires c =
    let is = c.loop-its.invariant in
    let i = c.len-class.result in
    let len : i ≡ length c.pop.new.self.items = omega (arith, c.len-class.ensures) in
    let last = rw (← len) at (last_left Takes c.pop.new.self.items is.1.0 c.in-Some.its c.in-Some.ensures.items is.1.1) in
    let low : i < length (givers_of c.loop-its.self) = grind (arith, common_steps) in
    let seat = (c.requires.seat.each i _ c.in-Some.its (class_there is.0 i low c.index.ensures) last).is_seat in
    record { mine = giver_there is.0 i low c.index.ensures c.index_mut.ensures.value; seat = seat.is_seat; idle = seat.is_idle }

pub loop-its-preserved : goal.loop-its-preserved
loop-its-preserved c =
    let is = c.loop-its.invariant in
    let i = c.len-class.result in
    let low : i < length (givers_of c.loop-its.self) = grind (arith, common_steps) in
    let here = at_index (givers_of c.loop-its.self) i _ low c.index_mut.ensures.value in
    let now = last_taken Takes c.pop.new.self.items is.1.0 c.in-Some.its c.in-Some.ensures.items is.1.1 i _ c.take_back.new.self
    (omega (arith, c.len-class.ensures)) here is.2 c.take_back.ensures.did in
    (givers_with is.0 i low c.index.ensures refl refl c.take_back.ensures.mine, now.0, now.1)

pub returns-clause-told : goal.returns-clause-told
returns-clause-told c = all_from c.loop-its.invariant.2 (omega (arith, c.in_default.ensures.cases.0))
