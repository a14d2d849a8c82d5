-- The law is `own_round`.
use Rattle.history_spec.proofs.RestLemmas.{own_round}
use Rattle.history_spec.proofs.laws.entries_stand_in_turns_of_their_own_round.Goals as goal

pub returns : goal.returns
returns c = own_round
