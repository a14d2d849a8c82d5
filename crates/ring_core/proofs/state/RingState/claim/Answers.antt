use Rattle.ring_core.proofs.{rules, Claim, step_sound}
use Rattle.ring_core.proofs.state.RingState.claim.Goals as goal

pub invariant_of-self : goal.invariant_of-self
invariant_of-self c = record { ring = step_sound c.self.invariant.ring (Claim c.args.seat) (search rules); room = c.self.invariant.room }

pub invariant_of-self-2 : goal.invariant_of-self-2
invariant_of-self-2 c = record { ring = step_sound c.self.invariant.ring (Claim c.args.seat) (search rules); room = c.self.invariant.room }
