use Rattle.journal.proofs.Names.{◌≡◌, ℕ, ◌<◌, ◌^◌, take, contains, nat_cmp, has_pair}
use Rattle.journal.proofs.pairs.pairs_of.Given as goal

-- the set has the pairs of the first turns
abbrev pub invariant-loop-turn : goal.invariant-loop-turn
invariant-loop-turn l = (p : ℕ) → p < 2 ^ 48 → contains nat_cmp l.pairs p ≡ has_pair (take l.turn l.history.turns) p
