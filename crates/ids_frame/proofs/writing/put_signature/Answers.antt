use Rattle.ids_frame.proofs.Names.{◌≡◌, ◌++◌, refl, option_copied, arith, common_steps, signature_part}
use Rattle.ids_frame.proofs.writing.put_signature.Goals as goal

-- the length and the bytes, one after the other
pub returns-in-Some : goal.returns-in-Some
returns-in-Some g c =
    let whole : c.to_be_bytes.result ++ c.in-Some.bytes.now ≡ signature_part (option_copied c.args.signature) =
    rw (c.to_be_bytes.ensures, c.in-Some.is) refl in
    grind (arith, common_steps, common_steps)
