use Rattle.cmd_steps.proofs.Names.{drop, nat_eq, length-drop, arith, common_prefix_len-le, ℕ}
use Rattle.idsm_run.proofs.check.common_len.Goals as goal

-- one of the two has no byte more
pub returns-after-loop-count : goal.returns-after-loop-count
returns-after-loop-count c =
    omega (arith, common_prefix_len-le nat_eq (drop c.loop-count.count c.args.left.now) (drop c.loop-count.count c.args.right.now), length-drop {A = ℕ})
