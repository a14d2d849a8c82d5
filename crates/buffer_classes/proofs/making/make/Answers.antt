use Rattle.buffer_classes.proofs.{◌≡◌, ◌+◌, ◌∙◌, arith, length, take, get_or_default, length-take-le, take_more, at_index, common_steps, as_many, class_made, rise_taken}
use Rattle.buffer_classes.proofs.making.make.Goals as goal

pub make_class-requires-clause-spec : goal.make_class-requires-clause-spec
make_class-requires-clause-spec c =
    let low = c.loop-spec-test.true in
    c.requires.classes.each c.loop-spec.spec-index _ (at_index c.args.specs.now _ _ low (get_or_default c.args.specs.now _ _ _ low))

pub hand_out-requires-clause-room : goal.hand_out-requires-clause-room
hand_out-requires-clause-room c = λ j seat at.
    let is = (c.loop-spec.invariant.0.each j seat at).is_claimant in
    grind (arith, common_steps, is.all, is.room, as_many c.loop-spec.invariant.0, c.loop-spec.invariant.1)

pub push_reserved-requires : goal.push_reserved-requires
push_reserved-requires c = grind (arith, common_steps, c.loop-spec.invariant.0.givers_are, c.loop-spec.invariant.1, as_many c.loop-spec.invariant.0)

pub loop-spec-preserved : goal.loop-spec-preserved
loop-spec-preserved c =
    let was = c.loop-spec.invariant in
    let specs = c.args.specs.now in
    let i = c.loop-spec.spec-index in
    let low = c.loop-spec-test.true in
    let long : length (take i specs) ≡ i = length-take-le i specs (omega (arith, low)) in
    let more = take_more specs i (record { size = 0; number = 0 }) low in
    let rise = rw more at (rise_taken 0 (i + 1) specs c.requires.classes.rise) in
    let made = class_made was.0 c.in_ok-new.ensures (omega (arith, c.len.ensures, as_many was.0))
    (omega (arith, long, low, c.requires.classes.few)) rise (record { classes = c.push_reserved-in-loop-spec.new.self }) (record { givers = c.push_reserved.new.self }) _
    c.push_reserved-in-loop-spec.ensures.items c.push_reserved.ensures.items c.hand_out.ensures
    c.push_reserved-in-loop-spec.ensures.capacity c.push_reserved.ensures.capacity in
    (rw more made, c.push_reserved-in-loop-spec.ensures.capacity ∙ was.1)
