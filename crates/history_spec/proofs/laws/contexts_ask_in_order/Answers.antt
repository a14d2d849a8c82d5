-- The law is `ask_in_order`.
use Rattle.history_spec.proofs.AskOrderLemmas.{ask_in_order}
use Rattle.history_spec.proofs.laws.contexts_ask_in_order.Goals as goal

pub returns : goal.returns
returns c = ask_in_order
