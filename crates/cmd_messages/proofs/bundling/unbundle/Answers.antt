use Rattle.cmd_steps.proofs.Names.{pair_of, reading_of, refl, unbundle, unpacks}
use Rattle.cmd_messages.proofs.CopyLemmas.{come, unread}
use Rattle.cmd_messages.proofs.bundling.unbundle.Goals as goal

pub returns-in_err-bytes : goal.returns-in_err-bytes
unfolding reading_of
returns-in_err-bytes g c = unread _ (unbundle (pair_of c.args.names)) _ _ _ refl _ _ c.from_residual.ensures.1 c.in_err-bytes.ensures.reads

pub returns : goal.returns
unfolding reading_of
returns g c =
    let names = pair_of c.args.names in
    c.write_made.ensures (unbundle names) (unpacks names.target c.in_ok-bytes.bytes.items) _
    (come _ _ _ _ _ refl _ c.in_ok-bytes.ensures.reads) (rw c.deref.ensures.value at (c.make_unpacked.ensures names.target))
