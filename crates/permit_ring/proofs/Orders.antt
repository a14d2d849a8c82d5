-- In which order the moves of a ring got their tickets.
use Rattle.permit_ring.proofs.Names.{◌≡◌, ℕ, zero, suc, ◌+◌, true, false, List, [], ◌∷◌, take, arith, common_steps, Machine, IsRing, after, word_packs, unpacked-packed, after_keeps, after_sizes, opening, opens, Move, found_at, Leads, get_elem?, some, Key, State, Slot, View, Runs, gets_ticket, ticket_at, tickets_got, AreCounted, AreInOrder}

module _ (m : Machine) (r : IsRing m) where
  -- a move that gets a ticket claims one more, and the ticket is the number of those before; any other claims none
  counts_one : (v : Move) → v.found ≡ found_at m v.step
      → (gets_ticket m.limit v ≡ true → (after m v.step).word.claimed ≡ m.word.claimed + 1)
      × (gets_ticket m.limit v ≡ true → ticket_at m.limit v ≡ m.word.claimed)
      × (gets_ticket m.limit v ≡ false → (after m v.step).word.claimed ≡ m.word.claimed)
  counts_one v found =
      let shows = unpacked-packed m.limit m.word (omega (arith, r.sizes.most_seats)) (word_packs m r) in
      grind (arith, common_steps, shows)

-- where so many were got before, each move that gets a ticket gets the one after those
abbrev AreFrom : ℕ → ℕ → List Move → Type 0
AreFrom limit first moves = (p : ℕ) (v : Move) → get_elem? moves p ≡ some v → gets_ticket limit v ≡ true
    → ticket_at limit v ≡ first + tickets_got limit (take p moves)

-- moves from a ring on
pub all_counted : (m now : Machine) (moves : List Move) → IsRing m → Leads m moves now → AreFrom m.limit m.word.claimed moves
    × (now.word.claimed ≡ m.word.claimed + tickets_got m.limit moves)
all_counted m now [] r led = (λ p v at gets. absurd (grind arith), grind arith)
all_counted m now (v ∷ vs) r led =
    let rest = all_counted (after m v.step) now vs (after_keeps m r v.step led.0) led.2 in
    let same : (after m v.step).limit ≡ m.limit = (after_sizes m v.step).limit_is in
    let counts = counts_one m r v led.1 in
    let each : AreFrom m.limit m.word.claimed (v ∷ vs) = λ p. elim p [
      | zero ↦ λ x at gets. grind (arith, counts.1)
      | suc q ↦ λ x at gets. grind (arith, rest.0 q x, counts.0, counts.2)
    ] in
    (each, grind (arith, rest.1, counts.0, counts.2))

-- so tickets rise with the moves that got them
rise : (limit first : ℕ) (moves : List Move) → AreFrom limit first moves → AreInOrder limit moves
rise limit first [] each p q a b less at_a at_b gets_a gets_b = cc
rise limit first (v ∷ vs) each p zero a b less at_a at_b gets_a gets_b = absurd (omega arith)
rise limit first (v ∷ vs) each zero (suc q) a b less at_a at_b gets_a gets_b =
    grind (arith, each zero a at_a gets_a, each (suc q) b at_b gets_b)
rise limit first (v ∷ vs) each (suc p) (suc q) a b less at_a at_b gets_a gets_b =
    rise limit (first + tickets_got limit (v ∷ [])) vs (λ k x at gets. grind (arith, each (suc k) x at gets)) p q a b (omega arith) at_a at_b
    gets_a gets_b

module _ {O D T N : Type 0} {note : D → N} {Ao : T → O → Type 0} {An : T → N → Type 0} {key : Key T} {s : State (Slot O D) (View T N)}
    (r : Runs note Ao An key s) where
  from_opening : AreFrom key.limit 0 r.moves × (r.machine.word.claimed ≡ 0 + tickets_got key.limit r.moves)
  from_opening = all_counted (opening key.positions key.limit) r.machine r.moves
      (opens key.positions key.limit r.sizes.some_position r.sizes.most_positions r.sizes.some_seat r.sizes.most_seats) r.reached

  -- so it is for those of a ring that runs
  pub counted : AreCounted key.limit r.moves
  counted p v at gets = omega (arith, from_opening.0 p v at gets)

  pub all_got : r.machine.word.claimed ≡ tickets_got key.limit r.moves
  all_got = omega (arith, from_opening.1)

  pub in_order : AreInOrder key.limit r.moves
  in_order = rise key.limit 0 r.moves from_opening.0
