use Rattle.journal.proofs.Names.{arith, last_hex, Kept}
use Rattle.journal.proofs.form.kept_of.Goals as goal

pub returns-in_err-bytes : goal.returns-in_err-bytes
returns-in_err-bytes c =
    let last = last_hex (λ bytes. Kept c.in_ok-class.class c.in_ok-claim.claim bytes) c.in_ok-text.field-0.now in
    grind (arith, last)

pub returns : goal.returns
returns c =
    let last = last_hex (λ bytes. Kept c.in_ok-class.class c.in_ok-claim.claim bytes) c.in_ok-text.field-0.now in
    grind (arith, last)
