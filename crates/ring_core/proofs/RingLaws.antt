-- What the ring that threads share rests on, beside that each step keeps what holds of a ring.
use Rattle.ring_core.proofs.Names.{◌≡◌, ℕ, ◌+◌, ◌<◌, ◌≤◌, true, false, Some, arith, common_steps, Machine, Step, seat_at, same_word, possible, after, next, IsRing, field_of, IsPackable}
use Rattle.ring_core.proofs.Bounds.{small}
use Rattle.ring_core.proofs.SeatLemmas.{live_is_made, sums_after}
use Rattle.ring_core.proofs.WordLemmas.{one_word}

module _ (m : Machine) (r : IsRing m) where
  -- the permit word can be packed
  pub word_packs : IsPackable m.limit m.word
  word_packs = let low = small m r in grind (arith, common_steps)

  -- and so can the word that the keeper last read or left
  pub seen_packs : IsPackable m.limit m.seen
  seen_packs = let low = small m r in grind (arith, common_steps)

  -- an offer that misses found a word with a smaller field than the keeper's
  pub missed_field_falls : same_word m.word m.seen ≡ false → field_of m.limit m.word < field_of m.limit m.seen
  missed_field_falls missed = let packs = word_packs in grind (arith, r.permits.either, r.last, one_word m.word m.seen)

  -- where none is free, all that was offered is claimed
  pub all_claimed : m.word.free ≡ 0 → m.word.claimed ≡ m.offered
  all_claimed full = omega arith

  -- and all but the last n tickets were reaped
  pub all_but_a_turn_reaped : m.word.claimed ≤ m.reaped + m.positions
  all_but_a_turn_reaped = omega arith

  -- an armed seat leaves its claim in the field
  pub armed_leaves_field : (i : ℕ) → (seat_at m.seats i).armed ≡ true → 0 < field_of m.limit m.word
  armed_leaves_field i armed =
      let made = live_is_made m.seats i ((r.seats.each i).armed_is_live armed) in
      let changed = sums_after m.seats i (record (seat_at m.seats i) { armed = false }) made in
      grind (arith, common_steps)

-- a step that leads on is possible, and leads to the state after it
pub record IsStep (m : Machine) (step : Step) (now : Machine) : Type 0 where
  pub possible_here : possible m step ≡ true
  pub is_after : now ≡ after m step

pub step_of_next : (m now : Machine) (step : Step) → next m step ≡ Some now → IsStep m step now
step_of_next m now step e = grind arith
