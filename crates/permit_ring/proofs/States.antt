-- Moves lead from ring to ring, each of one actor alone, and what stays of the rule where one view changes.
use Rattle.permit_ring.proofs.Names.{◌≡◌, ◌≢◌, ℕ, ◌+◌, ◌%◌, ◌<◌, ◌≤◌, true, List, set, Option, ◌∙◌, inl, inr, mod-lt, arith, cases_eq, common_steps, length-set, set_here, set_else, State, Machine, HasSizes, opening, IsRing, SameHolders, same_position, opens, Key, KeeperMemo, SeatMemo, Slot, View, Sits, Keeps, AreFates, IsSlot, AreSlots, IsSeatMemo, Runs, get_elem?, some, [], ◌∷◌, Some, sym, subst, append-nil, after, next, step_of_next, after_keeps, after_sizes, same_sizes, Step, Move, found_at, Leads, is_of_seat, is_of_keeper, by_seat, by_keeper, and_move, cond, zero, suc, ap, SeatView, seat_at, live_is_made, served, new_seat, possible, sum_by_push, one_if, sums_after, armed_count, Claim, Maybe}
use Rattle.std.proofs.lemmas.List.Elements.{filter-append}

-- one step more
pub leads_on : (start m now : Machine) (moves : List Move) (step : Step) → Leads start moves m → next m step ≡ Some now
    → Leads start (and_move moves step (found_at m step)) now
leads_on start m now [] step led e = grind (arith, led, step_of_next m now step e)
leads_on start m now (v ∷ vs) step led e = (led.0, led.1, leads_on (after start v.step) m now vs step led.2 e)

-- where none is free, the seat that took the last is not armed, and made no vain claim since
abbrev pub OneIsLeft : Machine → Type 0
OneIsLeft m = m.word.free ≡ 0 → armed_count m.seats + m.word.over < m.limit

-- no more seats are armed where the one that changed was armed before
armed_set : (seats : List SeatView) (i : ℕ) (seat : SeatView) → (seat.armed ≡ true → (seat_at seats i).armed ≡ true)
    → armed_count (set seats i seat) ≤ armed_count seats
armed_set [] i seat was = grind arith
armed_set (x ∷ seats) zero seat was = grind (arith, common_steps)
armed_set (x ∷ seats) (suc i) seat was = grind (arith, common_steps, armed_set seats i seat was)

-- each step keeps it
left_after : (m : Machine) → IsRing m → OneIsLeft m → (step : Step) → possible m step ≡ true → OneIsLeft (after m step)
left_after m r left (Claim i) ok =
    let made = live_is_made m.seats i ((r.seats.each i).armed_is_live ok) in
    let sums = sums_after m.seats i (served m.word (seat_at m.seats i)) made in
    grind (arith, sums, ap one_if ok)
left_after m r left step ok = grind (arith, armed_set m.seats, sum_by_push (λ (s : SeatView). one_if s.armed) m.seats new_seat)

-- moves lead from a ring to a ring, of its sizes
pub led_keeps : (start m : Machine) (moves : List Move) → IsRing start → OneIsLeft start → Leads start moves m
    → IsRing m × HasSizes start.positions start.limit m × OneIsLeft m
led_keeps start m [] r left led = (subst IsRing (sym led) r, same_sizes start m led, subst OneIsLeft (sym led) left)
led_keeps start m (v ∷ vs) r left led =
    let rest = led_keeps (after start v.step) m vs (after_keeps start r v.step led.0) (left_after start r left v.step led.0) led.2 in
    grind (arith, after_sizes start v.step, rest)

module _ (moves : List Move) (step : Step) (found : ℕ) where
  -- a move of seat i stands last among its moves, and another's move leaves them alone
  pub by_seat-on : (i : ℕ) → by_seat i (and_move moves step found)
      ≡ cond (is_of_seat i step) (and_move (by_seat i moves) step found) (by_seat i moves)
  by_seat-on i = simp filter-append (grind (arith, append-nil (by_seat i moves)))

  pub by_keeper-on : by_keeper (and_move moves step found) ≡ cond (is_of_keeper step) (and_move (by_keeper moves) step found) (by_keeper moves)
  by_keeper-on = simp filter-append (grind (arith, append-nil (by_keeper moves)))

module _ {N : Type 0} {m now : Machine} {fates : List (Option (ℕ × N))} where
  -- where no ticket changes hands, the fates stay
  pub fates_stay : {Admits : N → Type 0} {made more : ℕ} → made ≤ more → SameHolders m.seats now.seats → now.word.claimed ≡ m.word.claimed
      → AreFates m Admits made fates → AreFates now Admits more fates
  fates_stay grown same claimed f = grind (arith, common_steps)

  module _ {O D : Type 0} {note : D → N} {Admits : O → Type 0} {n : ℕ} {homes : List (Maybe (Slot O D))} where
    -- where none is claimed, offered or reaped, the slots stay
    pub slots_stay : now.reaped ≡ m.reaped → now.word.claimed ≡ m.word.claimed → now.offered ≡ m.offered
        → AreSlots note Admits m fates n homes → AreSlots note Admits now fates n homes
    slots_stay reaped claimed offered a =
        record { a_slot_each = a.a_slot_each; each = λ t from to. let is = a.each t (omega arith) (omega arith) in grind (arith, is) }

module _ {O D N : Type 0} {note : D → N} {Admits : O
    → Type 0} {n : ℕ} {homes : List (Maybe (Slot O D))} {m now : Machine} {fates later : List (Option (ℕ × N))} where
  -- the slots after that of ticket u of the turn changed
  pub slots_set : (u : ℕ) (v : Maybe (Slot O D)) → 1 ≤ n → AreSlots note Admits m fates n homes → now.reaped ≤ u
      → u < now.reaped + n → IsSlot note Admits now later u (some v)
      → ((t : ℕ) → t ≢ u → now.reaped ≤ t → t < now.reaped + n → IsSlot note Admits now later t (get_elem? homes (t % n)))
      → AreSlots note Admits now later n (set homes (u % n) v)
  slots_set u v positive was from_u to_u own others = record {
    a_slot_each = length-set homes (u % n) v ∙ was.a_slot_each;
    each = λ t from to. elim (cases_eq t u) [
      | inl here ↦ rw (here, set_here homes (u % n) v (rw was.a_slot_each (mod-lt u positive))) own
      | inr away ↦
          rw (set_else homes (u % n) (t % n) v (λ e. away (same_position now.reaped n t u from to from_u to_u e))) (others t away from to)
    ];
  }

module _ {O D T N : Type 0} {note : D → N} {Ao : T → O → Type 0} {An : T → N → Type 0} {key : Key T} {s : State (Slot O D) (View T N)}
    (r : Runs note Ao An key s) where
  -- moves from the opening state lead to rings of its sizes
  pub led_on : (m : Machine) (moves : List Move) → Leads (opening key.positions key.limit) moves m
      → IsRing m × HasSizes key.positions key.limit m × OneIsLeft m
  led_on m moves = led_keeps (opening key.positions key.limit) m moves
      (opens key.positions key.limit r.sizes.some_position r.sizes.most_positions r.sizes.some_seat r.sizes.most_seats)
      (λ full. absurd (omega (arith, full, r.sizes.some_position)))

  pub ring_of : IsRing r.machine
  ring_of = (led_on r.machine r.moves r.reached).0

  pub sizes_of : HasSizes key.positions key.limit r.machine
  sizes_of = (led_on r.machine r.moves r.reached).1

  -- not all seats claimed in vain since the last offer
  pub over_few : r.machine.word.over < key.limit
  over_few = grind (arith, sizes_of, (led_on r.machine r.moves r.reached).2, ring_of.permits.either, r.sizes.some_seat)

  -- no ticket is a turn ahead
  pub one_turn_ahead : r.machine.offered ≤ r.machine.reaped + key.positions
  one_turn_ahead = rw sizes_of.positions_are at ring_of.permits.one_turn_ahead

  -- the keeper sits at the first port
  pub keeper_port : {id : ℕ} {its : Key T} {k : KeeperMemo N} → get_elem? s.views id ≡ some (Keeps its k) → (id ≡ 0) × (k ≡ r.keeper)
  keeper_port {id = id} {its = its} {k = k} at = let first : id ≡ 0 = r.each_view id (Keeps its k) at in (first, cc r.keeper_there)

  module _ (id : ℕ) {its : Key T} {memo : SeatMemo N} (at : get_elem? s.views id ≡ some (Sits its memo)) where
    -- a seat sits elsewhere
    pub not_first : id ≢ 0
    not_first e = cc r.keeper_there

    -- at its own port, live, and knows
    pub seated : (r.owner memo.number ≡ id) × (memo.view.live ≡ true)
        × IsSeatMemo r.machine r.moves r.fates r.keeper.fronts r.keeper.released r.keeper.made memo
    seated = let v = r.each_view id (Sits its memo) at in (v.1, v.2, v.3)
