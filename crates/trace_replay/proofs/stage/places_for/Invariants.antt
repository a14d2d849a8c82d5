use Rattle.trace_replay.proofs.Names.{ArePlaces, length, vec_capacity, vec_len, ◌≡◌, ◌≤◌}
use Rattle.trace_replay.proofs.stage.places_for.Given as goal

-- the first places are there, and there is room for the others
abbrev pub invariant-loop-number : goal.invariant-loop-number
invariant-loop-number l = ArePlaces l.shared l.trace l.places.items × (length l.places.items ≡ l.number)
    × (vec_len l.places ≡ l.number) × (l.callers ≤ vec_capacity l.places)
