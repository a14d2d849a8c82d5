use Rattle.event_chain.proofs.Names.{◌≡◌, ℕ, ◌+◌, ◌++◌, length, map, filter, range_with_len, aggregating_in, is_aggregated}
use Rattle.event_chain.proofs.event_chain.aggregating.Given as goal

-- with those of the events that are left they are all
abbrev pub invariant-loop-i : goal.invariant-loop-i
invariant-loop-i g l = (more : ℕ) → l.i + more ≡ length l.windows
    → map (λ event. event.0) l.found.items ++ filter (is_aggregated l.windows) (range_with_len l.i more) ≡ aggregating_in l.windows
