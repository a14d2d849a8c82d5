use Rattle.chain_spec.proofs.StepLemmas.{fate_held}
use Rattle.chain_spec.proofs.laws.where_an_item_ends.Goals as goal

pub returns : goal.returns
returns c = fate_held
