use Rattle.main_function.proofs.TurnedLemmas.{one_turn}
use Rattle.main_function.proofs.laws.there_is_one_turn.Goals as goal

pub returns : goal.returns
returns g c tick desk givers old new one other = one_turn one other
