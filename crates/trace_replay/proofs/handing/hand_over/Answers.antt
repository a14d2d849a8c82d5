use Rattle.trace_replay.proofs.Names.{[], ap, arith, get_or_append_left, get_or_push, length, length_push, ◌<◌, ◌∙◌, ◌∷◌, ◌≡◌}
use Rattle.trace_replay.proofs.handing.hand_over.Goals as goal

pub put-requires-clause-hand : goal.put-requires-clause-hand
put-requires-clause-hand g c =
    let front = c.pop.new.self.items in
    let caller = c.in-Some.caller in
    let number = c.len-number.result in
    let items = c.in-Some.ensures.items in
    let more = ap length items ∙ length_push front caller in
    let is : length front ≡ number = omega (arith, c.len-number.ensures, c.pop.new.self.ok) in
    let low : number < length c.args.stage.now.places.items = omega (arith, is, c.loop-caller.invariant.1, more, c.requires.set.all) in
    let its = rw (← c.index.ensures) at (c.requires.set.places_are number c.index.result.now low) in
    let rest = rw (items, get_or_push front caller caller number is) at (c.loop-caller.invariant.0 number caller (omega (arith, is, more))) in
    let same = c.in_ok-reserve.ensures in
    rw (its.shared_is, its.trace_is, its.number_is) record {
      at_rest = record { is_pass = rw same.pass rest.is_pass; listed = rw (same.pass, same.losses) rest.listed };
      has_room = λ due. rw (← c.lines.ensures) same.room;
    }

pub loop-caller-preserved : goal.loop-caller-preserved
loop-caller-preserved g c =
    let front = c.pop.new.self.items in
    let caller = c.in-Some.caller in
    let items = c.in-Some.ensures.items in
    let more = ap length items ∙ length_push front caller in (
      λ i d low. rw (items, get_or_append_left front (caller ∷ []) d i low) at (c.loop-caller.invariant.0 i d (omega (arith, low, more))),
      omega (arith, c.loop-caller.invariant.1, more),
    )
