use Rattle.idsm_c.proofs.Names.{ap, length, ◌++◌, drop-replicate}
use Rattle.idsm_c.proofs.sealing.filled.Goals as goal

pub returns : goal.returns
returns c =
    let key = c.args.key.now in
    rw c.copy_from_slice.ensures.after (ap (λ zeros. key ++ zeros) (drop-replicate (length key) 64 0))
