use Rattle.frame_auth.proofs.Names.{◌++◌, length, ap, ◌∙◌, drop-replicate}
use Rattle.frame_auth.proofs.key.Key.make.Goals as goal

pub returns-clause-made : goal.returns-clause-made
returns-clause-made c =
    let bytes = c.args.bytes.now in
    c.put_front.ensures ∙ ap (λ r. bytes ++ r) (drop-replicate (length bytes) 64 0)
