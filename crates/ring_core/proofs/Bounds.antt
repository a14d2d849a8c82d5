-- The numbers of a ring are small: each fits far below 64 bits.
use Rattle.ring_core.proofs.Names.{ℕ, ◌+◌, ◌^◌, ◌≤◌, length, sum_by, arith, common_steps, All-from_get_or, sum_by-le, SeatView, nobody, seat_at, IsRing, machine_of, Machine}
use Rattle.ring_core.specs.declared.state.RingState.TheInside.{Inside}

-- a sum over the seats of a ring is at most 2^45
pub ring_sum_within : (m : Machine) → IsRing m → (f : SeatView → ℕ) → ((i : ℕ) → f (seat_at m.seats i) ≤ 2 ^ 40) → sum_by f m.seats ≤ 2 ^ 45
ring_sum_within m r f each =
    let few : length m.seats ≤ 32 = omega arith in
    let all = All-from_get_or (λ (s : SeatView). f s ≤ 2 ^ 40) m.seats nobody (λ i h. each i) in
    omega (arith, sum_by-le f (2 ^ 40) m.seats all)

-- bounds of the numbers of a ring
pub record AreSmall (m : Machine) : Type 0 where
  pub claimed : m.word.claimed ≤ 2 ^ 45
  pub over : m.word.over ≤ 32
  pub free : m.word.free ≤ 1024
  pub reaped : m.reaped ≤ 2 ^ 45
  pub offered : m.offered ≤ 2 ^ 45 + 1024
  pub loss0 : m.loss0.value + m.loss0.swept ≤ 2 ^ 45
  pub loss1 : m.loss1.value + m.loss1.swept ≤ 2 ^ 45

pub small : (m : Machine) → IsRing m → AreSmall m
small m r =
    let calls = ring_sum_within m r (λ (s : SeatView). s.calls) (λ i. (r.seats.each i).calls_within) in
    let marks0 = ring_sum_within m r (λ (s : SeatView). s.marks0) (λ i. (r.seats.each i).marks0_within) in
    let marks1 = ring_sum_within m r (λ (s : SeatView). s.marks1) (λ i. (r.seats.each i).marks1_within) in
    grind (arith, common_steps)

-- and so those of a state
pub state_small : (s : Inside) → IsRing (machine_of s) → (s.offered ≤ 2 ^ 45 + 1024) × (s.loss0.value + s.loss0.swept ≤ 2 ^ 45)
    × (s.loss1.value + s.loss1.swept ≤ 2 ^ 45) × (s.reaped ≤ 2 ^ 45) × (s.word.free ≤ 1024)
state_small s r = let all = small (machine_of s) r in assumption
