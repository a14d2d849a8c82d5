use Rattle.ids_bundle.proofs.Names.{arith, common_steps, eqb-false, false≢true}
use Rattle.ids_bundle.proofs.UnitLemmas.{bad_unless_unit}
use Rattle.ids_bundle.proofs.UnpackLemmas.{unpacking_more, unpacking_stops}
use Rattle.ids_bundle.proofs.unpacking.unpack.Goals as goal

pub returns-then-not-is_unit-clause-stops : goal.returns-then-not-is_unit-clause-stops
returns-then-not-is_unit-clause-stops c = grind (arith, common_steps, eqb-false, false≢true, bad_unless_unit, unpacking_stops)

pub loop-rest-preserved : goal.loop-rest-preserved
loop-rest-preserved c = grind (arith, common_steps, unpacking_more)
