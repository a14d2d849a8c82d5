use Rattle.cmd_words.proofs.Names.{sym, ap, ◌∙◌}
use Rattle.cmd_words.proofs.NumberLemmas.{alone, found_alone}
use Rattle.cmd_words.proofs.message_words.any_number.Goals as goal

pub returns-in_err-number : goal.returns-in_err-number
returns-in_err-number c =
    found_alone _ _ _ _ _ c.any_number.ensures c.of.ensures c.as_bytes.ensures.value
    (c.from_residual.ensures ∙ ap alone (sym c.in_err-number.was))

pub returns : goal.returns
returns c =
    found_alone _ _ _ _ _ c.any_number.ensures c.of.ensures c.as_bytes.ensures.value
    (c.ended.ensures ∙ ap alone (sym c.in_ok-number.was))
