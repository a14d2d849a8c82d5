-- A step that changes one seat and leaves its ticket alone keeps what holds of a ring, where the numbers fit.
use Rattle.ring_core.proofs.Names.{◌≡◌, ℕ, ◌+◌, ◌<◌, ◌≤◌, ◌⊎◌, List, length, set, arith, common_steps, length-set, count_by-le-length, LossWord, PermitWord, SeatView, seat_at, with_seat, IsRing, IsSeat, AreSeats, Holds, armed_count, calls_sum, Machine}
use Rattle.ring_core.proofs.SeatLemmas.{one_if, apart_same, mark_same, sums_after, each_after, holders_stay}

-- a seat `old` that becomes `now` with its ticket, beside these vain claims and loss words
pub record IsChange (m : Machine) (old now : SeatView) (over : ℕ) (loss0 loss1 : LossWord) : Type 0 where
  pub in_order : IsSeat m.reaped m.word.claimed now
  pub ticket : now.held ≡ old.held
  pub either : (m.word.free ≡ 0) ⊎ (over ≡ 0)
  pub more : m.word.over ≤ over
  pub within : (over ≡ 0) ⊎ (one_if now.armed + over ≤ one_if old.armed + m.word.over)
  pub calls : one_if now.armed + old.calls ≤ one_if old.armed + now.calls
  pub marks0 : loss0.value + loss0.swept + old.marks0 ≡ m.loss0.value + m.loss0.swept + now.marks0
  pub marks1 : loss1.value + loss1.swept + old.marks1 ≡ m.loss1.value + m.loss1.swept + now.marks1

module _ (m : Machine) (r : IsRing m) (i : ℕ) (now : SeatView) where
  abbrev seats : List SeatView
  seats = set m.seats i now

  -- the seats after the change
  pub seats_set : i < length m.seats → {word : PermitWord} → ((j : ℕ) → IsSeat m.reaped word.claimed (seat_at m.seats j))
      → IsSeat m.reaped word.claimed now → ((a b t : ℕ) → Holds (seat_at seats a) t → Holds (seat_at seats b) t → a ≡ b)
      → armed_count seats + word.over ≤ m.limit → word.claimed + armed_count seats ≤ calls_sum seats
      → AreSeats m.limit m.reaped word seats
  seats_set made {word = word} each in_order apart within had =
      grind (arith, length-set m.seats i now, each_after m.seats i now made (IsSeat m.reaped word.claimed) each in_order)

  -- the ring after it, with these vain claims and loss words
  pub seat_sound : i < length m.seats → (over : ℕ) (loss0 loss1 : LossWord) → IsChange m (seat_at m.seats i) now over loss0 loss1
      → IsRing (record (with_seat m i now) { word = record m.word { over = over }; loss0 = loss0; loss1 = loss1 })
  seat_sound made over loss0 loss1 c =
      let sums = sums_after m.seats i now made in
      let few = count_by-le-length (λ (s : SeatView). s.armed) seats in
      let within : armed_count seats + over ≤ m.limit = grind (arith, c.within, length-set m.seats i now) in
      let same = holders_stay m.seats i now made c.ticket in
      let changed : AreSeats m.limit m.reaped (record m.word { over = over }) seats = seats_set made r.seats.each c.in_order
      (apart_same m.seats seats same r.seats.apart) within (omega arith) in
      grind (arith, common_steps, λ (p : ℕ) (h : p < m.positions). mark_same m.seats seats same (r.marks p h))
