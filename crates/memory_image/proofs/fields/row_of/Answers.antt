use Rattle.memory_image.proofs.ImageLemmas.{◌≡◌, ◌++◌, None, rules, sym, ap, ◌∙◌, one_answer, fields_bytes, fields_at, plain_fields, fields_again, fields_are_part}
use Rattle.ids_frame.proofs.DecodeLemmas.{are_bytes}
use Rattle.memory_image.proofs.fields.row_of.Goals as goal

pub returns-in_err-fields : goal.returns-in_err-fields
returns-in_err-fields c =
    let none : c.from_residual.result ≡ None = search rules in
    rw none (λ row rest keeps is. absurd (cc (sym c.in_err-fields.ensures ∙ ap fields_at is ∙ fields_again row rest keeps)))

pub returns-in_err-row : goal.returns-in_err-row
returns-in_err-row c =
    let none : c.from_residual-in_err-row.result ≡ None = search rules in
    rw none (λ row rest keeps is.
    let same = one_answer (sym c.in_ok-fields.ensures ∙ ap fields_at is ∙ fields_again row rest keeps) in
    c.in_err-row.ensures row keeps same.0)

pub returns : goal.returns
returns c =
    let rest = c.in_ok-fields.rest.now in
    let part = fields_are_part.takes c.args.bytes.now (plain_fields c.in_ok-fields.fields) rest (are_bytes c.args.bytes.now c.type_inv.bytes)
    c.in_ok-fields.ensures in
    (c.in_ok-row.ensures.1 part.1.9, part.0 ∙ ap (λ f. fields_bytes f ++ rest) c.in_ok-row.ensures.0)
