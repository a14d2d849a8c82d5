use Rattle.journal.proofs.Names.{◌≡◌, ℕ, ◌<◌, ◌^◌, ◌||◌, take, contains, list_any, nat_cmp, turn_at, is_pair}
use Rattle.journal.proofs.pairs.add_pairs.Given as goal

-- the set has the pairs of the turn's first entries beside those that it had
abbrev pub invariant-loop-i : goal.invariant-loop-i
invariant-loop-i l = (p : ℕ) → p < 2 ^ 48 → contains nat_cmp l.pairs p ≡ (contains nat_cmp l.initial.pairs p || list_any (is_pair p) (take l.i (turn_at l.history.turns l.turn).entries))
