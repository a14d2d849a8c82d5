use Rattle.std.proofs.Common.{[], refl}
use Rattle.test_chains.proofs.plain_chain.PlainChain.make.Goals as goal

-- no turns, and the memory of a chain that took none
pub returns-clause-stands : goal.returns-clause-stands
returns-clause-stands g c = record {
  same = refl;
  all = c.in_ok-make.ensures.turns;
  order = tt;
  handed = refl;
  rows = c.into_memory.ensures c.args.config.now [] c.in_ok-make-2.ensures.stands;
}
