-- The list of seats with one of them changed, or with one more: what that leaves as it was.
use Rattle.ring_core.proofs.Names.{◌≡◌, ◌≢◌, ℕ, zero, suc, ◌+◌, ◌<◌, ◌⊎◌, Bool, true, false, cond, Option, Some, None, List, [], ◌∷◌, ◌++◌, length, set, sum_by, sym, ◌∙◌, ap, subst, inl, inr, arith, cases_eq, common_steps, get_or-set_same, get_or-set_other, sum_by-set, SeatView, Ticket0, nobody, new_seat, seat_at, is_idle, Holds, IsFinished, IsMark, armed_count, calls_sum}

-- what is known of an idle seat
pub record Idle (seat : SeatView) : Type 0 where
  pub live : seat.live ≡ true
  pub no_ticket : seat.held ≡ None
  pub not_armed : seat.armed ≡ false

pub idle_parts : (seat : SeatView) → is_idle seat ≡ true → Idle seat
idle_parts seat e = grind (arith, common_steps)

-- tickets that are one value are one number
pub one_ticket : (t u : ℕ) → ◌≡◌ {A = Option Ticket0} (Some (record { 0 = t })) (Some (record { 0 = u })) → t ≡ u
one_ticket t u e = let one : ◌≡◌ {A = Ticket0} (record { 0 = t }) (record { 0 = u }) = cc in ap (λ (k : Ticket0). k.0) one

-- the armed seat counts one
abbrev pub one_if : Bool → ℕ
one_if b = cond b 1 0

-- a live seat was made
pub live_is_made : (seats : List SeatView) (i : ℕ) → (seat_at seats i).live ≡ true → i < length seats
live_is_made seats i live = grind (arith, common_steps)

-- a mark stays where the finished tickets of its position are the same
pub mark_stays : {n claimed later p mark : ℕ} {seats now : List SeatView}
    → ((t : ℕ) → IsFinished n later now p t → IsFinished n claimed seats p t)
    → ((t : ℕ) → IsFinished n claimed seats p t → IsFinished n later now p t)
    → IsMark n claimed seats p mark → IsMark n later now p mark
mark_stays before after old =
    record { above_all = λ t f. old.above_all t (before t f); just_above = λ t e. after t (old.just_above t e) }

-- after any change two lists of seats hold the same tickets, seat by seat
abbrev pub SameHolders : List SeatView → List SeatView → Type 0
SameHolders seats now = (j : ℕ) → (seat_at now j).held ≡ (seat_at seats j).held

module _ (seats now : List SeatView) (same : SameHolders seats now) where
  pub apart_same : ((i j t : ℕ) → Holds (seat_at seats i) t → Holds (seat_at seats j) t → i ≡ j) → (i j t : ℕ)
      → Holds (seat_at now i) t → Holds (seat_at now j) t → i ≡ j
  apart_same apart i j t hi hj = apart i j t (sym (same i) ∙ hi) (sym (same j) ∙ hj)

  pub mark_same : {n claimed p mark : ℕ} → IsMark n claimed seats p mark → IsMark n claimed now p mark
  mark_same = mark_stays (grind (arith, same)) (grind (arith, same))

-- what a list of seats adds up to beside one where seat `old` became `new`
pub record AreSums (seats now : List SeatView) (old new : SeatView) : Type 0 where
  pub armed : armed_count now + one_if old.armed ≡ armed_count seats + one_if new.armed
  pub calls : calls_sum now + old.calls ≡ calls_sum seats + new.calls
  pub marks0 : sum_by (λ seat. seat.marks0) now + old.marks0 ≡ sum_by (λ seat. seat.marks0) seats + new.marks0
  pub marks1 : sum_by (λ seat. seat.marks1) now + old.marks1 ≡ sum_by (λ seat. seat.marks1) seats + new.marks1

-- seat i is changed to `seat`
module _ (seats : List SeatView) (i : ℕ) (seat : SeatView) (made : i < length seats) where
  pub seat_at-here : seat_at (set seats i seat) i ≡ seat
  seat_at-here = get_or-set_same seats i seat nobody made

  pub seat_at-else : (j : ℕ) → j ≢ i → seat_at (set seats i seat) j ≡ seat_at seats j
  seat_at-else j other = get_or-set_other seats i j seat nobody other

  -- seat j is the new one, or as before
  seat_at-set : (j : ℕ) → ((j ≡ i) × (seat_at (set seats i seat) j ≡ seat)) ⊎ ((j ≢ i) × (seat_at (set seats i seat) j ≡ seat_at seats j))
  seat_at-set j = grind (arith, cases_eq j i, seat_at-here, seat_at-else j)

  -- what holds of each seat and of the new one holds of each seat after
  pub each_after : (P : SeatView → Type 0) → ((j : ℕ) → P (seat_at seats j)) → P seat → (j : ℕ) → P (seat_at (set seats i seat) j)
  each_after P old new j = elim (seat_at-set j) [ inl e ↦ subst P (sym e.1) new | inr e ↦ subst P (sym e.1) (old j) ]

  -- what the seats add up to after the change
  pub sums_after : AreSums seats (set seats i seat) (seat_at seats i) seat
  sums_after = record {
    armed = sum_by-set (λ (s : SeatView). one_if s.armed) seats i seat nobody made;
    calls = sum_by-set (λ (s : SeatView). s.calls) seats i seat nobody made;
    marks0 = sum_by-set (λ (s : SeatView). s.marks0) seats i seat nobody made;
    marks1 = sum_by-set (λ (s : SeatView). s.marks1) seats i seat nobody made;
  }

  -- who holds a ticket now is seat i, or held it before
  pub holder_after : (j t : ℕ) → Holds (seat_at (set seats i seat) j) t → ((j ≡ i) × Holds seat t) ⊎ ((j ≢ i) × Holds (seat_at seats j) t)
  holder_after j t h = elim (seat_at-set j) [ inl e ↦ inl (e.0, cc) | inr e ↦ inr (e.0, cc) ]

  -- who held a ticket holds it now, unless seat i gave it up
  pub holder_before : (j t : ℕ) → (Holds (seat_at seats i) t → Holds seat t) → Holds (seat_at seats j) t
      → Holds (seat_at (set seats i seat) j) t
  holder_before j t kept h = grind (arith, seat_at-set j, kept)

  -- a change that leaves the ticket alone leaves all tickets alone
  pub holders_stay : seat.held ≡ (seat_at seats i).held → SameHolders seats (set seats i seat)
  holders_stay same j = elim (seat_at-set j) [ inl e ↦ cc | inr e ↦ cc ]

-- one seat more, which no number had before: seat j is as before, or the new one
pushed : (seats : List SeatView) (j : ℕ) → (seat_at (seats ++ new_seat ∷ []) j ≡ seat_at seats j)
    ⊎ ((seat_at (seats ++ new_seat ∷ []) j ≡ new_seat) × (seat_at seats j ≡ nobody))
pushed [] zero = grind arith
pushed [] (suc j) = grind arith
pushed (x ∷ seats) zero = grind arith
pushed (x ∷ seats) (suc j) = pushed seats j

module _ (seats : List SeatView) where
  pub seat_at-push : (P : SeatView → Type 0) → ((j : ℕ) → P (seat_at seats j)) → P new_seat → (j : ℕ)
      → P (seat_at (seats ++ new_seat ∷ []) j)
  seat_at-push P old new j = elim (pushed seats j) [ inl e ↦ subst P (sym e) (old j) | inr e ↦ subst P (sym e.0) new ]

  pub holders_stay_push : SameHolders seats (seats ++ new_seat ∷ [])
  holders_stay_push j = grind (arith, pushed seats j)
