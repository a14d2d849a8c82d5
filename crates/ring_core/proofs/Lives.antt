-- Splits, joins, looks and marks keep what holds of a ring.
use Rattle.ring_core.proofs.Names.{◌≡◌, ℕ, zero, suc, ◌<◌, true, false, List, [], ◌∷◌, ◌++◌, length, arith, common_steps, SeatView, Look, Mark, Split, Join, Resume, new_seat, seat_at, looked, marked, one_more_lost, possible, after, IsRing, IsSeat, Machine}
use Rattle.ring_core.proofs.Changes.{seat_sound}
use Rattle.ring_core.proofs.SeatLemmas.{live_is_made, mark_same, apart_same, seat_at-push, holders_stay_push}

module _ (m : Machine) (r : IsRing m) where
  abbrev one_more : List SeatView
  one_more = m.seats ++ new_seat ∷ []

  pub split_keeps : possible m Split ≡ true → IsRing (after m Split)
  split_keeps ok =
      let each = seat_at-push m.seats (IsSeat m.reaped m.word.claimed) r.seats.each (grind (arith, common_steps)) in
      let apart = apart_same m.seats one_more (holders_stay_push m.seats) r.seats.apart in
      grind (arith, common_steps, λ (p : ℕ) (h : p < m.positions). mark_same m.seats one_more (holders_stay_push m.seats) (r.marks p h))

module _ (m : Machine) (r : IsRing m) (i : ℕ) where
  abbrev old : SeatView
  old = seat_at m.seats i

  made : old.live ≡ true → i < length m.seats
  made = live_is_made m.seats i

  pub join_keeps : possible m (Join i) ≡ true → IsRing (after m (Join i))
  join_keeps ok =
      seat_sound m r i (record old { live = false }) (grind (arith, common_steps, made)) m.word.over m.loss0 m.loss1 (grind (arith, common_steps, r.seats.each i, r.permits.either))

  pub resume_keeps : possible m (Resume i) ≡ true → IsRing (after m (Resume i))
  resume_keeps ok =
      seat_sound m r i (record old { live = true }) (grind (arith, common_steps)) m.word.over m.loss0 m.loss1 (grind (arith, common_steps, r.seats.each i, r.permits.either))

  pub look_keeps : possible m (Look i) ≡ true → IsRing (after m (Look i))
  look_keeps ok = seat_sound m r i (looked m.word old) (grind (arith, common_steps, made)) m.word.over m.loss0 m.loss1 (grind (arith, common_steps, r.seats.each i, r.permits.either))

  pub mark_keeps : (kind : ℕ) → possible m (Mark i kind) ≡ true → IsRing (after m (Mark i kind))
  mark_keeps zero ok = seat_sound m r i (marked 0 old) (grind (arith, common_steps, made)) m.word.over (one_more_lost m.loss0) m.loss1 (grind (arith, common_steps, r.seats.each i, r.permits.either))
  mark_keeps (suc kind) ok =
      seat_sound m r i (marked (suc kind) old) (grind (arith, common_steps, made)) m.word.over m.loss0 (one_more_lost m.loss1) (grind (arith, common_steps, r.seats.each i, r.permits.either))
