use Rattle.buffer_classes.proofs.{◌<◌, ◌∙◌, length, refl, arith, at_index, nil_from_length, class_sizes, class_count, givers_of, IsBufferIn, Begins, Puts, at_length, admitted_before, admitted_last, all_below, all_put, all_then, buffer_there, gave_back, giver_there, givers_below, givers_with, many_sizes, one_put}
use Rattle.buffer_classes.proofs.Names.{Giver}
use Rattle.buffer_classes.proofs.givers.Givers.give.Goals.{In-Some}
use Rattle.buffer_classes.proofs.givers.Givers.give.Goals as goal

pub begin-requires : goal.begin-requires
begin-requires c =
    grind (arith, giver_there c.loop-class.invariant.0 c.loop-class.class (omega arith) c.index.ensures c.index_mut.ensures.value)

pub loop-class-preserved : goal.loop-class-preserved
loop-class-preserved c = givers_below c.loop-class.invariant.0 c.loop-class.class (omega arith) c.index.ensures
    c.loop-class.invariant.1 c.index_mut.ensures.value refl refl c.begin.ensures.mine c.begin.ensures.did

-- the last buffer is of a class that has a giver
its : (c : In-Some) → IsBufferIn (class_sizes c.args.classes.now) c.in-Some.buf × (c.in-Some.buf.class < length (givers_of c.loop-buf.self))
its c =
    let sizes = class_sizes c.args.classes.now in
    let last = admitted_last (IsBufferIn sizes) c.pop.new.self.items c.in-Some.buf c.in-Some.ensures.items c.loop-buf.invariant.1 in
    let low = at_length sizes c.in-Some.buf.class c.in-Some.buf.size last in
    (last, omega (arith, c.loop-buf.invariant.0.all, low, many_sizes c.args.classes.now))

pub index_mut-requires-in-Some : goal.index_mut-requires-in-Some
index_mut-requires-in-Some c = omega (arith, (its (goal.at.index_mut-requires-in-Some c).In-Some).1)

pub index-requires-in-Some : goal.index-requires-in-Some
index-requires-in-Some c = omega (arith, c.loop-buf.invariant.0.all, (its (goal.at.index-requires-in-Some c).In-Some).1)

pub put-requires : goal.put-requires
put-requires c =
    let is = c.loop-buf.invariant.0 in
    let known = its (goal.at.put-requires c).In-Some in
    let low : c.class-class.result < length (givers_of c.loop-buf.self) = omega (arith, known.1) in
    let giver = giver_there is c.class-class.result low c.index-in-Some.ensures c.index_mut-in-Some.ensures.value in
    grind (arith, giver, buffer_there is c.class-class.result low c.index-in-Some.ensures c.in-Some.buf c.class-class.ensures known.0)

pub loop-buf-preserved : goal.loop-buf-preserved
loop-buf-preserved c =
    let is = c.loop-buf.invariant in
    let i = c.class-class.result in
    let left = c.pop.new.self.items in
    let low : i < length (givers_of c.loop-buf.self) = omega (arith, (its (goal.at.loop-buf-preserved c).In-Some).1) in
    let here = at_index (givers_of c.loop-buf.self) i _ low c.index_mut-in-Some.ensures.value in (
      givers_with is.0 i low c.index-in-Some.ensures refl refl c.put.ensures.mine,
      admitted_before (IsBufferIn (class_sizes c.args.classes.now)) left c.in-Some.buf c.in-Some.ensures.items is.1,
      one_put left c.in-Some.buf c.in-Some.ensures.items i _ c.put.new.self c.class-class.ensures here is.2 c.put.ensures.did,
      c.pop.ensures.capacity ∙ is.3,
    )

pub offer-requires : goal.offer-requires
offer-requires c =
    let is = c.loop-class-2.invariant.0 in
    grind (arith, giver_there is _ (omega arith) c.index-in-loop-class-2.ensures c.index_mut-in-loop-class-2.ensures.value)

pub loop-class-2-preserved : goal.loop-class-2-preserved
loop-class-2-preserved c = givers_below c.loop-class-2.invariant.0 c.loop-class-2.class (omega arith) c.index-in-loop-class-2.ensures
    c.loop-class-2.invariant.1 c.index_mut-in-loop-class-2.ensures.value refl refl c.offer.ensures.mine c.offer.ensures.did

pub returns-clause-gave : goal.returns-clause-gave
returns-clause-gave c =
    let bufs = c.args.back.now.items in
    let put = all_put (nil_from_length c.loop-buf.back.items (omega (arith, c.in_default.ensures.cases.0))) c.loop-buf.invariant.2 in
    let filled = all_then {T = λ i old new. (mid : Giver) × Begins old mid × Puts (class_count i bufs) mid new}
    (all_below c.loop-class.invariant.1 (omega arith)) put (λ i old mid new b p. (mid, b, p)) in
    all_then filled (all_below c.loop-class-2.invariant.1 (omega arith)) (λ i old mid new p o. gave_back bufs i old p.0 mid new p.1 p.2 o)
