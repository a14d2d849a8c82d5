use Rattle.ids_bundle.proofs.Names.{arith, common_steps}
use Rattle.ids_bundle.proofs.UnpackLemmas.{is_seen}
use Rattle.ids_bundle.proofs.unpacker.take.Goals as goal

pub returns-then-is_unit-clause-takes : goal.returns-then-is_unit-clause-takes
returns-then-is_unit-clause-takes c = grind (arith, common_steps, is_seen)
