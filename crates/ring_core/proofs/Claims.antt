-- A claim keeps what holds of a ring, whether it gets a position or not.
use Rattle.ring_core.proofs.Names.{◌≡◌, ℕ, ◌+◌, ◌-◌, ◌<◌, ◌⊎◌, true, false, Some, List, length, set, ap, arith, cases_lt, common_steps, SeatView, Claim, seat_at, with_seat, after, IsRing, AreSeats, IsFinished, Holds, Machine}
use Rattle.ring_core.proofs.Changes.{seats_set, seat_sound}
use Rattle.ring_core.proofs.SeatLemmas.{live_is_made, one_if, mark_stays, sums_after, holder_after, holder_before, seat_at-here, one_ticket}

module _ (m : Machine) (r : IsRing m) (i : ℕ) (is_armed : (seat_at m.seats i).armed ≡ true) where
  abbrev old : SeatView
  old = seat_at m.seats i

  made : i < length m.seats
  made = live_is_made m.seats i ((r.seats.each i).armed_is_live is_armed)

  vain_sound : m.word.free ≡ 0
      → IsRing (record (with_seat m i (record old { armed = false })) { word = record m.word { over = m.word.over + 1 } })
  vain_sound full = seat_sound m r i (record old { armed = false }) made (m.word.over + 1) m.loss0 m.loss1 (grind (arith, common_steps, r.seats.each i))

  -- the seat gets the ticket `claimed`
  abbrev served : SeatView
  served = record old { armed = false; held = Some (record { 0 = m.word.claimed }) }

  abbrev now : List SeatView
  now = set m.seats i served

  -- a ticket that is held after the claim is the new one, or was held before
  held_after : (j t : ℕ) → Holds (seat_at now j) t → ((j ≡ i) × (m.word.claimed ≡ t)) ⊎ (Holds (seat_at m.seats j) t × (t < m.word.claimed))
  held_after j t h = grind (arith, holder_after m.seats i served made j t h, one_ticket, (r.seats.each j).held_is_out t)

  finished_before : (p t : ℕ) → IsFinished m.positions (m.word.claimed + 1) now p t → IsFinished m.positions m.word.claimed m.seats p t
  finished_before p t f =
      let before = λ (j : ℕ). holder_before m.seats i served made j t in
      grind (arith, f.held_by_none i, before, seat_at-here m.seats i served made, r.seats.each i, is_armed)

  finished_after : (p t : ℕ) → IsFinished m.positions m.word.claimed m.seats p t → IsFinished m.positions (m.word.claimed + 1) now p t
  finished_after p t f = let after = λ (j : ℕ). held_after j t in grind arith

  served_sound : 0 < m.word.free
      → IsRing (record (with_seat m i served) { word = record m.word { claimed = m.word.claimed + 1; free = m.word.free - 1 } })
  served_sound some =
      let sums = sums_after m.seats i served made in
      let one : one_if old.armed ≡ 1 = ap one_if is_armed in
      let seats : AreSeats m.limit m.reaped (record m.word { claimed = m.word.claimed + 1; free = m.word.free - 1 }) now =
      seats_set m r i served made (λ j. grind (arith, r.seats.each j)) (grind (arith, common_steps, r.seats.each i))
      (λ a b t ha hb. grind (arith, held_after a t ha, held_after b t hb, r.seats.apart a b t)) (omega arith) (omega arith) in
      let marks = λ (p : ℕ) (h : p < m.positions). mark_stays (finished_before p) (finished_after p) (r.marks p h) in
      grind (arith, common_steps)

  pub claim_keeps : IsRing (after m (Claim i))
  claim_keeps = grind (arith, cases_lt 0 m.word.free, served_sound, vain_sound)
