use Rattle.ids_frame.proofs.Names.{length}
use Rattle.ids_frame.proofs.MessagesLemmas.{IsLeft}
use Rattle.ids_frame.proofs.messages.Messages.read.Given as goal

abbrev pub invariant-loop-rest : goal.invariant-loop-rest
invariant-loop-rest l = IsLeft l.bytes l.rest

abbrev pub decreases-loop-rest : goal.decreases-loop-rest
decreases-loop-rest l = length l.rest
