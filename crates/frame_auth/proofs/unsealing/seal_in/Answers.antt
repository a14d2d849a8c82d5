use Rattle.frame_auth.proofs.Names.{take-append-drop, arith, common_steps}
use Rattle.frame_auth.proofs.unsealing.seal_in.Goals as goal

pub returns-clause-some : goal.returns-clause-some
returns-clause-some c = grind (arith, common_steps, take-append-drop 8 c.in_ok-signature.field-0.now)
