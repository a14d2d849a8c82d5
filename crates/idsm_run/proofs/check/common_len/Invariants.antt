use Rattle.cmd_steps.proofs.Names.{◌≡◌, ◌+◌, ◌-◌, ◌≤◌, length, drop, min, nat_eq, common_prefix_len}
use Rattle.idsm_run.proofs.check.common_len.Given as goal

-- the bytes up to here stand in both, and the others are to be compared
abbrev pub invariant-loop-count : goal.invariant-loop-count
invariant-loop-count l = record {
  least : l.most ≡ min (length l.left) (length l.right);
  within : l.count ≤ l.most;
  same : l.count + common_prefix_len nat_eq (drop l.count l.left) (drop l.count l.right)
      ≡ common_prefix_len nat_eq l.left l.right;
}

abbrev pub decreases-loop-count : goal.decreases-loop-count
decreases-loop-count l = l.most - l.count
