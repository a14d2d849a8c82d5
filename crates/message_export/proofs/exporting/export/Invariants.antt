use Rattle.message_export.proofs.Names.{length}
use Rattle.message_export.proofs.ExportLemmas.{ArePut}
use Rattle.message_export.proofs.exporting.export.Given as goal

abbrev pub invariant-loop-rest : goal.invariant-loop-rest
invariant-loop-rest l = ArePut l.format l.bytes l.rest l.out.items l.time

abbrev pub decreases-loop-rest : goal.decreases-loop-rest
decreases-loop-rest l = length l.rest
