use Rattle.std.proofs.Common.{length}
use Rattle.test_chains.proofs.both.is_handed_on.Given as goal

abbrev pub decreases-loop-head : goal.decreases-loop-head
decreases-loop-head l = length l.turns
