use Rattle.ring_core.proofs.{rules, Join, step_sound}
use Rattle.ring_core.proofs.state.RingState.join.Goals as goal

pub invariant_of-self : goal.invariant_of-self
invariant_of-self c = record { ring = step_sound c.self.invariant.ring (Join c.args.seat) (search rules); room = c.self.invariant.room }
