use Rattle.buffer_classes.proofs.Names.{length, IsGiverOf, FillsLate}
use Rattle.buffer_classes.proofs.giver.Giver.put_late.Given as goal

abbrev pub invariant-loop-self : goal.invariant-loop-self
invariant-loop-self l = IsGiverOf l.ring l.self × FillsLate l.initial.self l.self

abbrev pub decreases-loop-self : goal.decreases-loop-self
decreases-loop-self l = length l.self.late.items
