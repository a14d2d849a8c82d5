use Rattle.cmd_steps.proofs.Names.{left_ends}
use Rattle.cmd_steps.proofs.MadeLemmas.{not_made}
use Rattle.cmd_steps.proofs.making.write_made.Goals as goal

pub returns-in_err-bytes : goal.returns-in_err-bytes
returns-in_err-bytes g c command task first come makes =
    left_ends command _ c.in_err-bytes.field-0.0 first _ c.from_residual.ensures.1
    (not_made command task c.args.target.now _ first _ come c.in_err-bytes.field-0.0 (rw c.in_err-bytes.was at makes))
