use Rattle.cmd_steps.proofs.Names.{Keyed, gives, keyed_of, reading_of, refl, unseals, verify}
use Rattle.cmd_messages.proofs.CopyLemmas.{come, unread}
use Rattle.cmd_messages.proofs.sealing.verify.Goals as goal

pub returns-in_err-key : goal.returns-in_err-key
unfolding reading_of
returns-in_err-key g c =
    let next = λ (keyed : Keyed). gives (unseals c.args.names.files.target.now keyed.key c.args.names.start keyed.bytes) in
    unread _ (verify (keyed_of c.args.names)) _ _ next refl _ _ c.from_residual.ensures.1 c.in_err-key.ensures

pub returns : goal.returns
unfolding reading_of
returns g c =
    let task = λ (keyed : Keyed). unseals c.args.names.files.target.now keyed.key c.args.names.start keyed.bytes in
    c.write_made.ensures (verify (keyed_of c.args.names)) _ _ (come _ _ _ _ task refl _ c.in_ok-key.ensures)
    (rw c.deref.ensures.value at (c.make_unsealed-made.ensures c.args.names.files.target.now))
