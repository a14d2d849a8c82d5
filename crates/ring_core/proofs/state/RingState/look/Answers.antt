use Rattle.ring_core.proofs.{rules, Look, step_sound}
use Rattle.ring_core.proofs.state.RingState.look.Goals as goal

pub invariant_of-self : goal.invariant_of-self
invariant_of-self c = record { ring = step_sound c.self.invariant.ring (Look c.args.seat) (search rules); room = c.self.invariant.room }
