-- What a call and a turn find at a live ring, from the state before each move.
use Rattle.permit_ring.proofs.Names.{◌≡◌, ◌≢◌, ℕ, zero, suc, ◌+◌, ◌-◌, ◌%◌, ◌<◌, ◌≤◌, ◌⊎◌, true, false, List, [], ◌∷◌, take, drop, refl, inl, inr, arith, common_steps, mod-lt, cases_eq, SeatView, Option, Some, None, Machine, HasSizes, IsRing, Holds, seat_at, mark_at, opening, after, word_packs, unpacked-packed, same_position, Move, found_at, Leads, get_elem?, some, Key, State, Slot, View, Runs, take-take, cases_Bool, one_ticket, Ticket0, after_moves, finds_none, finds_unready, AllTakenOrHeld, state_before, HasGivenBack, left_and_since}
use Rattle.permit_ring.proofs.Orders.{all_counted}
use Rattle.permit_ring.proofs.States.{led_on}

-- moves lead through the state after the first p of them
through : (m now : Machine) (moves : List Move) (p : ℕ) → Leads m moves now
    → Leads m (take p moves) (after_moves m (take p moves)) × Leads (after_moves m (take p moves)) (drop p moves) now
through m now moves zero led = (refl, led)
through m now [] (suc p) led = (refl, led)
through m now (v ∷ vs) (suc p) led = let rest = through (after m v.step) now vs p led.2 in ((led.0, led.1, rest.0), rest.1)

-- and the next one finds what that state shows
finds_there : (m now : Machine) (moves : List Move) (p : ℕ) (v : Move) → Leads m moves now → get_elem? moves p ≡ some v
    → v.found ≡ found_at (after_moves m (take p moves)) v.step
finds_there m now [] p v led at = absurd cc
finds_there m now (x ∷ xs) zero v led at = grind (arith, led.1, at)
finds_there m now (x ∷ xs) (suc p) v led at = finds_there (after m x.step) now xs p v led.2 at

-- a look or a claim that finds none free shows that none is
none_is_free : (m : Machine) → IsRing m → (v : Move) → v.found ≡ found_at m v.step → finds_none m.limit v ≡ true → m.word.free ≡ 0
none_is_free m r v found none =
    let shows = unpacked-packed m.limit m.word (omega (arith, r.sizes.most_seats)) (word_packs m r) in
    grind (arith, common_steps, shows)

-- a seat holds the ticket, or does not
holds_or_not : (held : Option Ticket0) (t : ℕ) → (held ≡ Some (record { 0 = t })) ⊎ ¬ (held ≡ Some (record { 0 = t }))
holds_or_not None t = grind arith
holds_or_not (Some u) t = grind (arith, cases_eq u.0 t, one_ticket u.0 t)

-- some seat holds it, or none does
held_or_not : (seats : List SeatView) (t : ℕ) → ((i : ℕ) × Holds (seat_at seats i) t) ⊎ ((i : ℕ) → ¬ Holds (seat_at seats i) t)
held_or_not [] t = inr (λ i h. absurd cc)
held_or_not (x ∷ xs) t = elim (held_or_not xs t) [
  | inl held ↦ inl (suc held.0, held.1)
  | inr none ↦ elim (holds_or_not x.held t) [
    | inl here ↦ inl (0, here)
    | inr other ↦ inr (λ i. elim i as (λ (k : ℕ). ¬ Holds (seat_at (x ∷ xs) k) t) [ zero ↦ other | suc j ↦ none j ])
  ]
]

-- a read that took nothing read another mark than that of the next ticket
other_mark : (m : Machine) (v : Move) → v.found ≡ found_at m v.step → finds_unready m v ≡ true
    → mark_at m.marks (m.reaped % m.positions) ≢ m.reaped + 1
other_mark m v found missed = grind (arith, common_steps)

-- then the next ticket is not claimed, or a seat holds it
unready : (m : Machine) → IsRing m → mark_at m.marks (m.reaped % m.positions) ≢ m.reaped + 1 → AllTakenOrHeld m
unready m r other = elim (cases_eq m.reaped m.word.claimed) [
  | inl all ↦ inl all
  | inr left ↦ elim (held_or_not m.seats m.reaped) [
    | inl held ↦ inr held
    | inr none ↦
        let mark = r.marks (m.reaped % m.positions) (mod-lt m.reaped (omega arith)) in
        let above = mark.above_all m.reaped record { claimed_before = omega arith; stands_at = refl; held_by_none = none } in
        let last = mark_at m.marks (m.reaped % m.positions) - 1 in
        let else = mark.just_above last (omega arith) in
        let same = same_position m.reaped m.positions last m.reaped (omega arith) (omega arith) (omega arith) (omega arith) else.stands_at in
        absurd (omega arith)
  ]
]

module _ {O D T N : Type 0} {note : D → N} {Ao : T → O → Type 0} {An : T → N → Type 0} {key : Key T} {s : State (Slot O D) (View T N)}
    (r : Runs note Ao An key s) where
  abbrev first : Machine
  first = opening key.positions key.limit

  abbrev before : ℕ → Machine
  before = state_before key r.moves

  -- the state before each move is that of a ring of the ring's sizes
  ring_before : (p : ℕ) → IsRing (before p) × HasSizes key.positions key.limit (before p)
  ring_before p = let led = led_on r (before p) (take p r.moves) (through first r.machine r.moves p r.reached).0 in (led.0, led.1)

  -- what is free, what was left and what was claimed since are all positions
  account : (z p : ℕ) → z ≤ p → HasGivenBack key r.moves z p → (before p).word.free + left_and_since key r.moves z p ≡ key.positions
  account z p le back =
      let part = through first (before p) (take p r.moves) z (through first r.machine r.moves p r.reached).0 in
      let since : Leads (before z) (drop z (take p r.moves)) (before p) = rw (take-take z p r.moves le) at part.1 in
      let old = ring_before z in
      let claims = (all_counted (before z) (before p) (drop z (take p r.moves)) old.0 since).1 in
      omega (arith, rw old.1.limit_is at claims, back, old.0.permits, (ring_before p).0.permits)

  pub lost : (z p : ℕ) (call : Move) → z ≤ p → get_elem? r.moves p ≡ some call → HasGivenBack key r.moves z p
      → finds_none key.limit call ≡ true → left_and_since key r.moves z p ≡ key.positions
  lost z p call le at back none =
      let found = finds_there first r.machine r.moves p call r.reached at in
      let full = none_is_free (before p) (ring_before p).0 call found (rw (ring_before p).1.limit_is none) in
      omega (arith, account z p le back, full)

  pub not_lost : (z p : ℕ) (call : Move) → z ≤ p → get_elem? r.moves p ≡ some call → HasGivenBack key r.moves z p
      → left_and_since key r.moves z p < key.positions → finds_none key.limit call ≡ false
  not_lost z p call le at back few = grind (arith, cases_Bool (finds_none key.limit call), lost z p call le at back)

  pub turn_left : (z : ℕ) (see : Move) → get_elem? r.moves z ≡ some see → finds_unready (before z) see ≡ true → AllTakenOrHeld (before z)
  turn_left z see at missed = unready (before z) (ring_before z).0 (other_mark (before z) see (finds_there first r.machine r.moves z see r.reached at) missed)
