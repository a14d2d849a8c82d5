use Rattle.ring_core.proofs.{arith, rules, Split, step_sound}
use Rattle.ring_core.proofs.state.RingState.split.Goals as goal

pub invariant_of-self : goal.invariant_of-self
invariant_of-self c = record { ring = step_sound c.self.invariant.ring Split (search rules); room = omega arith }
