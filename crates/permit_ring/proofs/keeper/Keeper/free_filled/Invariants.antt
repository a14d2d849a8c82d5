use Rattle.permit_ring.proofs.Names.{◌≡◌, ℕ, ◌+◌, ◌≤◌, field_of, KeeperMemo, TriesTell, IsKeeperOf, keeper_memo}
use Rattle.permit_ring.proofs.keeper.Keeper.free_filled.Given as goal

-- what further tries tell goes on from what those so far told
abbrev pub invariant-loop-tries : goal.invariant-loop-tries
invariant-loop-tries g l =
    IsKeeperOf g.F.Freight.admits_offered l.ring l.self
    × (l.self.filled ≡ l.initial.self.filled)
    × (l.self.vacant ≡ l.initial.self.vacant)
    × ((more : ℕ) (new : KeeperMemo _) → TriesTell l.ring.limit l.initial.self.filled (keeper_memo l.self) (1 + more) new
    → TriesTell l.ring.limit l.initial.self.filled (keeper_memo l.initial.self) (l.tries + more) new)
    × (l.tries + field_of l.ring.limit (keeper_memo l.self).seen ≤ field_of l.ring.limit (keeper_memo l.initial.self).seen + 1)

abbrev pub decreases-loop-tries : goal.decreases-loop-tries
decreases-loop-tries g l = field_of l.ring.limit (keeper_memo l.self).seen
