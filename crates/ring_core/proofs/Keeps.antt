-- The keeper's sees, reads and offers keep what holds of a ring.
use Rattle.ring_core.proofs.Names.{◌≡◌, ℕ, ◌+◌, ◌%◌, ◌≤◌, true, arith, mod-lt, inl, inr, cases_Bool, common_steps, See, Read, Offer, seat_at, mark_at, same_word, possible, after, IsRing, IsSeat, Machine}

module _ (m : Machine) (r : IsRing m) where
  -- the next ticket is finished, so no seat holds it
  see_finished : mark_at m.marks (m.reaped % m.positions) ≡ m.reaped + 1 → IsRing (record m { reaped = m.reaped + 1 })
  see_finished e =
      let f = (r.marks (m.reaped % m.positions) (mod-lt m.reaped (omega arith))).just_above m.reaped e in
      let each : (i : ℕ) → IsSeat (m.reaped + 1) m.word.claimed (seat_at m.seats i) =
      λ i. grind (arith, common_steps, r.seats.each i, f.held_by_none i) in
      grind (arith, common_steps)

  pub see_keeps : IsRing (after m See)
  see_keeps = let ready = see_finished in grind arith

  pub read_keeps : IsRing (after m Read)
  read_keeps = grind (arith, common_steps)

  pub offer_keeps : (k : ℕ) → possible m (Offer k) ≡ true → IsRing (after m (Offer k))
  offer_keeps k ok =
      let room : m.offered + k ≤ m.reaped + m.positions = grind arith in
      elim (cases_Bool (same_word m.word m.seen)) [ inl same ↦ rw same (grind (arith, common_steps)) | inr other ↦ rw other read_keeps ]
