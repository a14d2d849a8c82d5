-- The next state of each kind of step, from what its caller knows.
use Rattle.ring_core.proofs.Names.{◌≡◌, ◌≢◌, ℕ, ◌+◌, ◌%◌, ◌≤◌, Some, refl, le-leb, eq-eqb, ne_eqb, See, Offer, mark_at, offered_to, next, Machine}
use Rattle.ring_core.proofs.WordLemmas.{one_word, other_word}

module _ (m : Machine) where
  pub see_takes_next : mark_at m.marks (m.reaped % m.positions) ≡ m.reaped + 1 → next m See ≡ Some (record m { reaped = m.reaped + 1 })
  see_takes_next ready = rw (eq-eqb (mark_at m.marks (m.reaped % m.positions)) (m.reaped + 1) ready) refl

  pub see_waits_next : mark_at m.marks (m.reaped % m.positions) ≢ m.reaped + 1 → next m See ≡ Some m
  see_waits_next waits = rw (ne_eqb (mark_at m.marks (m.reaped % m.positions)) (m.reaped + 1) waits) refl

  pub offer_takes_next : (k : ℕ) → 1 ≤ k → m.offered + k ≤ m.reaped + m.positions → m.word ≡ m.seen → next m (Offer k) ≡ Some (record m {
    word = offered_to m.word k;
    offered = m.offered + k;
    seen = offered_to m.word k;
  })
  offer_takes_next k some room same =
      rw (le-leb 1 k some, le-leb (m.offered + k) (m.reaped + m.positions) room, one_word m.word m.seen (cc) (cc) (cc)) refl

  pub offer_misses_next : (k : ℕ) → 1 ≤ k → m.offered + k ≤ m.reaped + m.positions → m.word ≢ m.seen
      → next m (Offer k) ≡ Some (record m { seen = m.word })
  offer_misses_next k some room other =
      rw (le-leb 1 k some, le-leb (m.offered + k) (m.reaped + m.positions) room, other_word m.word m.seen other) refl
