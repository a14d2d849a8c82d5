use Rattle.chain_endings.proofs.Lemmas.{text_of-append, arith, common_steps}
use Rattle.chain_endings.proofs.explaining.explain.Goals as goal

pub returns : goal.returns
returns c = grind (arith, common_steps, text_of-append, c.parts.ensures.value, c.in_ok-push_accounts.ensures)
