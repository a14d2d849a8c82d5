use Rattle.cmd_steps.proofs.Names.{arith}
use Rattle.cmd_steps.proofs.inputs.read_config.Goals as goal

pub returns-in_err-text : goal.returns-in_err-text
returns-in_err-text g c = grind (arith, c.from_residual.ensures.1, c.in_err-text.ensures.reads)
