use Rattle.cmd_steps.proofs.Names.{arith, codes, length, rules, ◌-◌, ◌/◌}
use Rattle.cmd_messages.proofs.CopyLemmas.{copied_work, sealed_length}
use Rattle.cmd_messages.proofs.sealing.make_unsealed.Goals as goal

pub returns-in_ok-line-in-Ok : goal.returns-in_ok-line-in-Ok
returns-in_ok-line-in-Ok c target =
    copied_work _ _ (codes "verified ") target _ _ _ ((length c.args.sealed.now - c.len.result) / 42) c.in-Ok.ensures.found
    (grind (arith, sealed_length, c.in-Ok.ensures.found, c.len.ensures)) (search rules)
