use Rattle.idsm_api.proofs.Names.{◌≡◌, ◌+◌, ◌≤◌, length, ◌++◌, reverse, vec_capacity}
use Rattle.idsm_api.specs.Making.{passes_of}
use Rattle.idsm_api.proofs.closing.take_passes.Given as goal

-- the passes of the last callers were taken, the last first, and there is room for the others
abbrev pub invariant-loop-caller : goal.invariant-loop-caller
invariant-loop-caller l = record {
  taken : passes_of l.callers.items ++ reverse l.passes.items ≡ passes_of l.initial.callers.items;
  room : length l.passes.items + length l.callers.items ≤ vec_capacity l.passes;
  kept : vec_capacity l.passes ≡ vec_capacity l.initial.passes;
}

abbrev pub decreases-loop-caller : goal.decreases-loop-caller
decreases-loop-caller l = length l.callers.items
