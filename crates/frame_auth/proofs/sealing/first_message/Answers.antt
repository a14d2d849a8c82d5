use Rattle.frame_auth.proofs.Names.{refl, sym, ◌∙◌, arith, common_steps}
use Rattle.ids_frame.proofs.DecodeLemmas.{are_bytes, decode_tells}
use Rattle.frame_auth.proofs.sealing.first_message.Goals as goal

pub split_at-requires : goal.split_at-requires
split_at-requires c = (decode_tells c.args.bytes.now _ (are_bytes _ c.type_inv.bytes) (sym c.in-Ok.is ∙ c.decode.ensures)).few

pub returns-in-Ok : goal.returns-in-Ok
returns-in-Ok c =
    let front = decode_tells c.args.bytes.now _ (are_bytes _ c.type_inv.bytes) (sym c.in-Ok.is ∙ c.decode.ensures) in
    grind (arith, common_steps)

pub returns-in-Err-clause-bad : goal.returns-in-Err-clause-bad
returns-in-Err-clause-bad c = (refl, decode_tells c.args.bytes.now _ (are_bytes _ c.type_inv.bytes) (sym c.in-Err.is ∙ c.decode.ensures))
