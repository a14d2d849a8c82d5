use Rattle.std.proofs.Common.{arith}
use Rattle.std.proofs.KnownBytes.{Appends-trans}
use Rattle.std.proofs.Math.Seq.{take-add}
use Rattle.std.proofs.lemmas.Grind.{common_steps}
use Rattle.std.proofs.lemmas.List.{take_rest}
use Rattle.ids_outside.proofs.host_shelf.write_whole.Goals as goal

-- the writer took a part of the rest
pub loop-written-preserved : goal.loop-written-preserved
loop-written-preserved g c = grind (arith, common_steps, Appends-trans, take-add, take_rest)
