use Rattle.ring_core.proofs.{arith, rules, Mark, step_sound}
use Rattle.ring_core.proofs.state.RingState.add_mark.Goals as goal

pub invariant_of-self : goal.invariant_of-self
invariant_of-self c = record { ring = step_sound c.self.invariant.ring (Mark c.args.seat c.args.kind) (search rules); room = omega arith }

pub invariant_of-self-else-kind-eq0 : goal.invariant_of-self-else-kind-eq0
invariant_of-self-else-kind-eq0 c =
    record { ring = step_sound c.self.invariant.ring (Mark c.args.seat c.args.kind) (search rules); room = omega arith }
