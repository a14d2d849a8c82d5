use Rattle.memory_image.proofs.ImageLemmas.{refl, rules, arith, common_steps}
use Rattle.memory_image.proofs.fields.Fields.row.Goals as goal

pub returns : goal.returns
returns c =
    let range = c.if-not-is_in_range.ensures.0 refl in
    (cc (c.in_ok-stamp.ensures.0, c.in_ok-stamp.ensures.1), λ are. record { event = range.0; id = search rules; sensor = range.1; occurs = range.2; occurrences = search rules; order = range.3; last = range.4; stamp = grind (arith, common_steps, c.in_ok-stamp.ensures.1); size = range.5; context = are })
