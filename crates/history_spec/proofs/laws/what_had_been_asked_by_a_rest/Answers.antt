-- The law is `asked_by_rest`.
use Rattle.history_spec.proofs.AskOrderLemmas.{asked_by_rest}
use Rattle.history_spec.proofs.laws.what_had_been_asked_by_a_rest.Goals as goal

pub returns : goal.returns
returns c = asked_by_rest
