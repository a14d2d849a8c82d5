-- What the rule says of a ring: of its tickets, its logs, its slots and its words.
use Rattle.permit_ring.proofs.Names.{◌≡◌, ℕ, zero, suc, ◌+◌, ◌%◌, ◌<◌, ◌≤◌, false, is_some, Option, Some, None, refl, sym, ◌∙◌, ap, inl, inr, mod-eq_of_lt, arith, ⊎_elim, map, at_map, cases_eq, common_steps, State, seat_at, Holds, Key, Lost, Got, SeatMemo, Slot, View, Sits, SitsThere, CameBack, IsMemoThere, IsHeldOnce, HasOnePlace, IsNotedAs, IsInOrder, IsAdmittedSlot, IsOneSeats, Home, IsSlot, IsSeatMemo, IsSomewhere, Runs, get_elem?, some, add-mod_right, fates_in_order, live_is_made, Maybe}
use Rattle.permit_ring.proofs.States.{ring_of, keeper_port, seated}
use Rattle.permit_ring.proofs.ListLemmas.{at_length, there}
use Rattle.permit_ring.proofs.LogLemmas.{got_in, got_from, taken_in, taken_from, within_end}
use Rattle.permit_ring.specs.Logs as logs

-- each place of a turn is that of a ticket in it
in_turn : (n from p : ℕ) → p < n → (t : ℕ) × (from ≤ t) × (t < from + n) × (t % n ≡ p)
in_turn n zero p below = (p, omega arith, omega arith, mod-eq_of_lt below)
in_turn n (suc from) p below = let q = in_turn n from p below in elim (cases_eq from q.0) [
  | inl here ↦ (from + n, omega arith, omega arith, add-mod_right from n ∙ ap (λ (t : ℕ). t % n) here ∙ q.3)
  | inr later ↦ (q.0, omega arith, omega arith, q.3)
]

module _ {O D T N : Type 0} {note : D → N} {Ao : T → O → Type 0} {An : T → N → Type 0} {key : Key T} {s : State (Slot O D) (View T N)}
    (r : Runs note Ao An key s) where
  -- who came back is with the keeper and not live, and knows what it knew
  came_back : (memo : SeatMemo N) → CameBack s.views memo
      → (get_elem? r.keeper.back memo.number ≡ some (Some memo)) × (memo.view.live ≡ false)
      × IsSeatMemo r.machine r.moves r.fates r.keeper.fronts r.keeper.released r.keeper.made memo
  came_back memo c = let here = rw (keeper_port r c.there).1 at c.back_at in
      let p = r.each_seat memo.number (Some memo) here in (here, p.1, p.2)

  -- what a seat that was made knows
  pub memo_known : (memo : SeatMemo N) → IsMemoThere s.views memo → IsSeatMemo r.machine r.moves r.fates r.keeper.fronts r.keeper.released r.keeper.made memo
  memo_known memo (inl sits) = (seated r _ sits.there).2
  memo_known memo (inr back) = (came_back memo back).2

  -- a number has one port
  pub one_port : (p q : ℕ) (its other : Key T) (a b : SeatMemo N) → get_elem? s.views p ≡ some (Sits its a)
      → get_elem? s.views q ≡ some (Sits other b) → a.number ≡ b.number → p ≡ q
  one_port p q its other a b at_a at_b e = sym (seated r _ at_a).0 ∙ ap r.owner e ∙ (seated r _ at_b).0

  -- a number has one memo
  one_each : (a b : SeatMemo N) → IsMemoThere s.views a → IsMemoThere s.views b → a.number ≡ b.number → a ≡ b
  one_each a b (inl x) (inl y) e = let same = one_port x.port y.port x.its_key y.its_key a b x.there y.there e in cc (x.there, y.there)
  one_each a b (inl x) (inr y) e = let at = seated r _ x.there in let was = came_back b y in cc (at.1, at.2.shows, was.1, was.2.shows)
  one_each a b (inr x) (inl y) e = let at = seated r _ y.there in let was = came_back a x in cc (at.1, at.2.shows, was.1, was.2.shows)
  one_each a b (inr x) (inr y) e = cc ((came_back a x).0, (came_back b y).0)

  -- the memo of a seat by its number
  memo_from : (i : ℕ) (back : Option (SeatMemo N)) → get_elem? r.keeper.back i ≡ some back
      → IsSomewhere key r.machine r.moves r.fates r.keeper s.views r.owner i back → (memo : SeatMemo N) × (memo.number ≡ i)
      × IsMemoThere s.views memo
  memo_from i None e p = (p.0, p.1, inl (record { port = r.owner i; its_key = key; there = p.2 }))
  memo_from i (Some memo) e p =
      let at = ap (get_elem? r.keeper.back) p.0 ∙ e in
      (memo, p.0, inr (record { port = 0; its_key = key; keeper = r.keeper; there = r.keeper_there; back_at = at }))

  -- each number is that of one seat
  pub each_number_is_one_seats : (i : ℕ) → i < r.keeper.made → IsOneSeats s.views i
  each_number_is_one_seats i less =
      let back = there r.keeper.back i (omega (arith, r.knows.back_is)) in
      let one = memo_from i back.0 back.1 (r.each_seat i back.0 back.1) in
      record { memo = one.0; is_there = one.2; number_is = one.1; no_other = λ other is e. one_each other one.0 is one.2 (e ∙ sym one.1) }

  module _ (memo : SeatMemo N) (is : IsMemoThere s.views memo) where
    -- a ticket in a log was finished by its seat
    pub fate_of : (j t : ℕ) (x : N) → get_elem? memo.log j ≡ some (Got t x) → get_elem? r.fates t ≡ some (Some (memo.number, x))
    fate_of j t x e =
        let got = got_in memo.log j t x e in
        grind (arith, taken_from memo.number 0 r.fates got.0 t x (rw (memo_known memo is).got at got.1))

    -- it was claimed
    pub logged_is_claimed : (j t : ℕ) (x : N) → get_elem? memo.log j ≡ some (Got t x) → t < r.machine.word.claimed
    logged_is_claimed j t x e = omega (arith, at_length r.fates t (Some (memo.number, x)) (fate_of j t x e), r.are_fates.each_claimed)

    -- the calls of a log are in order
    pub records_rise : IsInOrder r.machine.word.claimed memo.log
    records_rise = let known = memo_known memo is in record {
      rises = λ j l a b less ea eb. fates_in_order 0 (map logs.fate_of memo.log) j l (logs.fate_of a) (logs.fate_of b) known.ordered.rises
          (at_map logs.fate_of memo.log j a ea) (at_map logs.fate_of memo.log l b eb) less;
      lost_within = λ j g e. omega (arith, within_end 0 memo.log j (Lost g) known.ordered.rises e, known.below_claims);
    }

    -- a seat holds in the machine what its memo says
    pub machine_holds : (t : ℕ) → Holds memo.view t → Holds (seat_at r.machine.seats memo.number) t
    machine_holds t holds = rw (memo_known memo is).shows at holds

    -- nothing became yet of a held ticket
    pub open_of : (t : ℕ) → Holds memo.view t → get_elem? r.fates t ≡ some None
    open_of t holds = r.are_fates.held_is_open memo.number t (machine_holds t holds)

  -- two places of one ticket in logs are one
  one_entry : (a b : SeatMemo N) (j l t : ℕ) (x y : N) → IsMemoThere s.views a → IsMemoThere s.views b
      → get_elem? a.log j ≡ some (Got t x) → get_elem? b.log l ≡ some (Got t y) → (a ≡ b) × (j ≡ l) × (x ≡ y)
  one_entry a b j l t x y is_a is_b ea eb =
      let fate : (a.number, x) ≡ (b.number, y) = cc (fate_of a is_a j t x ea, fate_of b is_b l t y eb) in
      let one : a ≡ b = one_each a b is_a is_b (ap (λ (p : ℕ × N). p.0) fate) in
      let rises = (records_rise a is_a).rises in
      grind (arith, fate, one, ea, eb, rises j l (Got t x) (Got t y), rises l j (Got t y) (Got t x))

  -- a ticket of which nothing became is held, and has this place alone
  held_once : (t : ℕ) → get_elem? r.fates t ≡ some None → IsHeldOnce s.views t
  held_once t undone =
      let held = r.are_fates.open_is_held t undone in
      let live = ((ring_of r).seats.each held.0).holder_is_live (ap is_some held.1) in
      let one = each_number_is_one_seats held.0 (grind (arith, common_steps, r.knows.made_is, live_is_made r.machine.seats held.0 live, held.1)) in
      let h : Holds one.memo.view t = rw ((memo_known one.memo one.is_there).shows, one.number_is) held.1 in
      -- a seat that holds a ticket is live, so it sits at a port
      let sits : SitsThere s.views one.memo = ⊎_elim (λ there. there)
      (λ back. let was = came_back one.memo back in cc (live, one.number_is, was.1, was.2.shows)) one.is_there in
      record {
        holder = one.memo;
        sits = sits;
        is_live = (seated r _ sits.there).1;
        holds = h;
        no_other = λ other is h_too.
            let apart = (ring_of r).seats.apart other.number one.memo.number t in
            grind (arith, one_each other one.memo is one.is_there, machine_holds other is t h_too, apart, machine_holds one.memo one.is_there t h);
        in_no_log = λ other j x is e. cc (undone, fate_of other is j t x e);
      }

  -- any other is in a log
  pub noted_as : (t : ℕ) (y : ℕ × N) → get_elem? r.fates t ≡ some (Some y) → IsNotedAs s.views t y.1
  noted_as t y done =
      let one = each_number_is_one_seats y.0 (r.are_fates.finished t y.0 y.1 done).0 in
      let took = taken_in one.memo.number 0 r.fates t t y.1 (omega arith) (rw one.number_is done) in
      let entry = got_from one.memo.log took.0 t y.1 (rw (← (memo_known one.memo one.is_there).got) at took.1) in
      record { taker = one.memo; is_there = one.is_there; place = entry.0; stands = entry.1 }

  -- so a ticket has one place, whatever became of it
  pub place_from : (t : ℕ) (fate : Option (ℕ × N)) → get_elem? r.fates t ≡ some fate → HasOnePlace s.views t
  place_from t None e = inl (held_once t e)
  place_from t (Some y) e = let noted = noted_as t y e in inr record {
    taker = noted.taker;
    is_there = noted.is_there;
    place = noted.place;
    its_note = y.1;
    stands = noted.stands;
    no_other = λ other j x is_too at. one_entry other noted.taker j noted.place t x y.1 is_too noted.is_there at noted.stands;
    held_by_none = λ other is_too h. cc (open_of other is_too t h, e);
  }

  -- the value at home of a ticket is admitted, whatever became of it
  value_at : (t : ℕ) (x : Slot O D) (home : Home O D) (fate : Maybe (Option (ℕ × N))) → get_elem? r.fates t ≡ fate
      → IsSlot note (Ao key.terms) r.machine r.fates t home → home ≡ some (some x) → IsAdmittedSlot note Ao An key.terms x
  value_at t x home (some (Some y)) e is at = grind (arith, at, is.finished_home y.0 y.1 e, r.are_fates.finished t y.0 y.1 e)
  value_at t x home fate e is at = grind (arith, is, at, there r.fates t, r.are_fates.each_claimed)

  -- each value at home is that of a ticket of the turn
  pub values_at_home_are_admitted : (p : ℕ) (x : Slot O D) → get_elem? s.homes p ≡ some (some x) → IsAdmittedSlot note Ao An key.terms x
  values_at_home_are_admitted p x at =
      let t = in_turn key.positions r.machine.reaped p (omega (arith, at_length s.homes p (some x) at, r.are_slots.a_slot_each)) in
      value_at t.0 x (get_elem? s.homes (t.0 % key.positions)) (get_elem? r.fates t.0) refl (r.are_slots.each t.0 t.1 t.2)
      (ap (get_elem? s.homes) t.3 ∙ at)
