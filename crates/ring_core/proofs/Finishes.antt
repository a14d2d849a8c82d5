-- A finish keeps what holds of a ring.
use Rattle.ring_core.proofs.Names.{◌≡◌, ◌≢◌, ℕ, ◌+◌, ◌%◌, ◌<◌, ◌≤◌, true, is_some, None, List, length, set, ap, inl, inr, arith, cases_eq, common_steps, get_or-set_same, get_or-set_other, SeatView, Finish, seat_at, with_seat, mark_at, possible, after, IsRing, AreSeats, IsMark, IsFinished, Holds, Machine}
use Rattle.ring_core.proofs.Changes.{seats_set}
use Rattle.ring_core.proofs.SeatLemmas.{live_is_made, mark_stays, sums_after, holder_after, holder_before, one_ticket}
use Rattle.ring_core.proofs.Turns.{one_turn}

module _ (m : Machine) (r : IsRing m) (i t : ℕ) (holds : Holds (seat_at m.seats i) t) where
  made : i < length m.seats
  made = live_is_made m.seats i ((r.seats.each i).holder_is_live (ap is_some holds))

  out : (m.reaped ≤ t) × (t < m.word.claimed)
  out = (r.seats.each i).held_is_out t holds

  abbrev empty : SeatView
  empty = record (seat_at m.seats i) { held = None }

  abbrev now : List SeatView
  now = set m.seats i empty

  -- a ticket that is held after the finish was held before, by another seat
  held_else : (j u : ℕ) → Holds (seat_at now j) u → (j ≢ i) × Holds (seat_at m.seats j) u
  held_else j u h = elim (holder_after m.seats i empty made j u h) [ inl here ↦ absurd cc | inr other ↦ other ]

  -- t is finished now
  now_finished : IsFinished m.positions m.word.claimed now (t % m.positions) t
  now_finished = let after = λ (j : ℕ). held_else j t in let alone = λ (j : ℕ). r.seats.apart j i t in grind (arith, out)

  finished_before : (p u : ℕ) → p ≢ t % m.positions → IsFinished m.positions m.word.claimed now p u
      → IsFinished m.positions m.word.claimed m.seats p u
  finished_before p u other f =
      let before = λ (j : ℕ). holder_before m.seats i empty made j u in
      grind (arith, before, one_ticket t u, other, holds)

  finished_after : (p u : ℕ) → IsFinished m.positions m.word.claimed m.seats p u → IsFinished m.positions m.word.claimed now p u
  finished_after p u f = let else = λ (j : ℕ). held_else j u in grind arith

  marks : (p : ℕ) → p < m.positions → IsMark m.positions m.word.claimed now p (mark_at (set m.marks (t % m.positions) (t + 1)) p)
  marks p h = elim (cases_eq p (t % m.positions)) [
    | inl here ↦
        let there : t % m.positions < length m.marks = omega arith in
        let turn = λ (u : ℕ). one_turn t u m.positions in
        grind (arith, here, out, turn, now_finished, get_or-set_same m.marks (t % m.positions) (t + 1) 0 there)
    | inr other ↦ rw (get_or-set_other m.marks (t % m.positions) p (t + 1) 0 other)
        (mark_stays (λ u. finished_before p u other) (finished_after p) (r.marks p h))
  ]

  finish_sound : IsRing (record (with_seat m i empty) { marks = set m.marks (t % m.positions) (t + 1) })
  finish_sound =
      let sums = sums_after m.seats i empty made in
      let seats : AreSeats m.limit m.reaped m.word now =
      seats_set m r i empty made r.seats.each (grind (arith, common_steps, r.seats.each i))
      (λ a b u ha hb. r.seats.apart a b u (held_else a u ha).1 (held_else b u hb).1) (omega arith) (omega arith) in
      grind (arith, common_steps, marks)

pub finish_keeps : (m : Machine) → IsRing m → (i : ℕ) → possible m (Finish i) ≡ true → IsRing (after m (Finish i))
finish_keeps m r i ok = let all = λ (t : ℕ). finish_sound m r i t in grind (arith, all)
