use Rattle.std.proofs.Common.{◌≡◌, ◌+◌, ◌≤◌, ◌++◌, length, vec_len, vec_capacity}
use Rattle.std.specs.Vec.Iter.{DrainKeeps, drain_items}
use Rattle.filter_chain.specs.Parcels.{all_parcels}
use Rattle.test_chains.proofs.handing.hand_back.Given as goal

-- what is back and what is still to come are all parcels, and there is room for them
abbrev pub invariant-loop-entry : goal.invariant-loop-entry
invariant-loop-entry g l =
    (goal.iterator-loop-entry g).can_next l.entry-iterator
    × (goal.iterator-loop-entry g).is_finite l.entry-iterator
    × DrainKeeps l.initial.entry-iterator l.entry-iterator
    × (l.back.items ++ all_parcels (drain_items l.entry-iterator) ≡ l.fn.back.items ++ all_parcels (drain_items l.initial.entry-iterator))
    × (vec_len l.back + length (drain_items l.entry-iterator) ≤ vec_capacity l.back)
    × (vec_capacity l.back ≡ vec_capacity l.fn.back)
