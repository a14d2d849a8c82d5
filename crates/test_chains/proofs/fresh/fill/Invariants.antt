use Rattle.std.proofs.Common.{◌-◌, ◌≤◌, vec_len}
use Rattle.std.specs.List.{All}
use Rattle.test_chains.specs.Remembered.{IsFresh}
use Rattle.test_chains.proofs.fresh.fill.Given as goal

-- all took no turn, if those did that were there
abbrev pub invariant-loop-alloc : goal.invariant-loop-alloc
invariant-loop-alloc l = record {
  fresh : All (IsFresh l.config) l.initial.chains.items → All (IsFresh l.config) l.chains.items;
  more : vec_len l.initial.chains ≤ vec_len l.chains;
}

abbrev pub decreases-loop-alloc : goal.decreases-loop-alloc
decreases-loop-alloc l = l.number - vec_len l.chains
