use Rattle.permit_ring.proofs.Names.{◌≡◌, ◌≢◌, ℕ, ◌+◌, [], ◌∷◌, ◌∙◌, arith, ap, add_assoc, add-zero, refl, subst, append_assoc, field_of, KeeperMemo, PermitWord, TriesTell, misses, keeper_memo}
use Rattle.permit_ring.proofs.keeper.Keeper.free_filled.Goals as goal

-- tries after one that found another word
one_missed : {N : Type 0} (limit count : ℕ) (word : PermitWord) (old : KeeperMemo N) {tries : ℕ} {new : KeeperMemo N} → word ≢ old.seen
    → TriesTell limit count (misses limit count word old) tries new → TriesTell limit count old (1 + tries) new
one_missed limit count word old other t = let many = t.1 in (word ∷ t.0, omega arith, (other, t.2), t.3 ∙ simp (append_assoc, add_assoc))

pub loop-tries-preserved : goal.loop-tries-preserved
loop-tries-preserved g c =
    let is = c.loop-tries.invariant in
    let limit = c.args.ring.now.limit in
    let count = c.args.self.now.filled in
    let old = keeper_memo c.loop-tries.self in
    let now = keeper_memo c.try_offer.new.self in
    let missed = c.try_offer.ensures.missed c.loop-tries-test.true in
    let other : now.seen ≢ old.seen = λ e. omega (arith, ap (field_of limit) e, missed.2) in
    let told : now ≡ misses limit count now.seen old = rw is.1 at missed.0 in (
      c.try_offer.ensures.mine,
      missed.1 ∙ is.1,
      c.try_offer.ensures.vacant ∙ is.2,
      λ more new t. rw (add_assoc c.loop-tries.tries 1 more) (is.3 (1 + more) new
          (one_missed limit count now.seen old other (subst (λ k. TriesTell limit count k (1 + more) new) told t))),
      omega (arith, is.4, missed.2),
    )

pub returns-clause-told : goal.returns-clause-told
returns-clause-told g c =
    let is = c.loop-tries.invariant in
    let hit = rw is.1 at (c.try_offer.ensures.hit c.loop-tries-test.false).0 in
    rw (add-zero c.loop-tries.tries) at (is.3 0 (keeper_memo c.try_offer.new.self) ([], refl, tt, hit))
