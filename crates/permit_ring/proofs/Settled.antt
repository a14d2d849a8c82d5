-- What is left once all seats are back, and that what is settled stays so.
use Rattle.permit_ring.proofs.Names.{◌≡◌, ◌≢◌, ◌≤◌, ℕ, zero, suc, ◌+◌, ◌-◌, ◌%◌, ◌<◌, is_some, List, [], ◌∷◌, ◌++◌, map, length, get_or, sum_by, Option, Some, None, refl, sym, ◌∙◌, ap, subst, inl, inr, mod-lt, arith, false≢true, common_steps, length-map, nil_from_length, sum_by-cons, at_longer, at_map, State, SeatView, Key, KeeperMemo, Got, SeatMemo, Slot, View, OfferTells, AreAllBack, IsAllReaped, IsSettled, IsWholeLog, marks_back, StandsIn, Runs, Machine, marks_of, nobody, mark_at, seat_at, Holds, all_but_a_turn_reaped, live_is_made, one_turn, get_elem?, some, decided_on, append_assoc, See, Read, by_keeper, by_seat, packed, waits, move, end_from, fate_of, last_word, tried, HaveOneOrder, loss_at, AreAllDecided}
use Rattle.permit_ring.proofs.Orders.{counted, in_order}
use Rattle.permit_ring.proofs.LogLemmas.{got_from, lost_in, taken_in, within_end}
use Rattle.permit_ring.proofs.States.{ring_of}

-- where each ticket has its note, something became of each
all_noted : {N : Type 0} (fates : List (Option (ℕ × N))) (notes : List N) → length notes ≡ length fates
    → ((t : ℕ) (x : N) → get_elem? notes t ≡ some x → (i : ℕ) × (get_elem? fates t ≡ some (Some (i, x))))
    → (taken : List (ℕ × N)) × (notes ≡ map (λ (x : ℕ × N). x.1) taken) × (fates ≡ map Some taken)
all_noted [] [] long each = ([], refl, refl)
all_noted (fate ∷ fates) (x ∷ notes) long each =
    let here = each zero x refl in
    let rest = all_noted fates notes (omega arith) (λ t y e. each (suc t) y e) in
    ((here.0, x) ∷ rest.0, cc rest.1, cc (here.1, rest.2))
all_noted _ _ long each = absurd (omega arith)

-- a place of a list of options that is not open has something
pub some_there : {A : Type 0} (xs : List (Option A)) (i : ℕ) → i < length xs → (get_elem? xs i ≡ some None → ⊥)
    → (a : A) × (get_elem? xs i ≡ some (Some a))
some_there [] i low closed = absurd (omega arith)
some_there (None ∷ xs) zero low closed = absurd (closed refl)
some_there (Some a ∷ xs) zero low closed = (a, refl)
some_there (x ∷ xs) (suc i) low closed = some_there xs i (omega arith) closed

-- two lists of the same length whose elements weigh the same weigh the same
same_sums : {A B : Type 0} (f : A → ℕ) (g : B → ℕ) (d : A) (xs : List A) (ys : List B) → length ys ≡ length xs
    → ((i : ℕ) → i < length ys → (y : B) × (get_elem? ys i ≡ some y) × (f (get_or xs i d) ≡ g y)) → sum_by f xs ≡ sum_by g ys
same_sums f g d [] [] long each = refl
same_sums f g d (x ∷ xs) (y ∷ ys) long each =
    let rest = same_sums f g d xs ys (omega arith) (λ i low. each (suc i) (omega arith)) in
    grind (arith, each zero (omega arith), rest, sum_by-cons f x xs, sum_by-cons g y ys)
same_sums f g d _ _ long each = absurd (omega arith)

-- a front stands among more
pub more_fronts : (fronts : List ℕ) (next g : ℕ) → StandsIn fronts g → StandsIn (fronts ++ next ∷ []) g
more_fronts fronts next g f = (f.0, at_longer fronts (next ∷ []) f.0 g f.1)

module _ {N : Type 0} where
  -- what is settled is all reaped
  pub settled_is_reaped : (k : KeeperMemo N) → IsSettled k → IsAllReaped k
  settled_is_reaped k s i memo at = rw (s.notes_are, length-map) (s.logs_are i memo at).decided.within

  -- an offer changes nothing of what is settled but the fronts
  module _ (limit count tries : ℕ) (old new : KeeperMemo N) (tells : OfferTells limit count old tries new) where
    pub offer_keeps_back : AreAllBack old → AreAllBack new
    offer_keeps_back = subst AreAllBack (sym tells.1.3)

    pub offer_keeps_reaped : IsAllReaped old → IsAllReaped new
    offer_keeps_reaped = subst IsAllReaped (sym tells.1.3)

    pub offer_keeps_order : HaveOneOrder old → HaveOneOrder new
    offer_keeps_order o =
        let did = tells.1.3 in
        let looked = move Read (packed limit tells.0) ∷ [] in
        let tries = map (tried limit count) (tells.1.0 ++ last_word tells.0 tells.1.0 ∷ []) in
        let since = o.of_keeper.0 in
        let before = by_keeper o.moves in
        record {
          positions = o.positions;
          limit = o.limit;
          positions_are = rw did (at_longer old.fronts ((old.offered + count) ∷ []) 0 o.positions o.positions_are);
          moves = o.moves;
          machine = o.machine;
          reached = o.reached;
          of_seats = rw did o.of_seats;
          of_keeper = (
            (since ++ looked) ++ tries,
            ap (λ (k : KeeperMemo N). k.moves) did ∙ ap (λ moves. (moves ++ looked) ++ tries) o.of_keeper.1
                ∙ ap (λ moves. moves ++ tries) (append_assoc before since looked) ∙ append_assoc before (since ++ looked) tries,
          );
          counted = o.counted;
          in_order = o.in_order;
        }

    pub offer_keeps_settled : IsSettled old → IsSettled new
    offer_keeps_settled s = subst IsSettled (sym tells.1.3) record {
      order = rw tells.1.3 at (offer_keeps_order s.order);
      go_on = s.go_on;
      taken = s.taken;
      notes_are = s.notes_are;
      seats_are = s.seats_are;
      logs_are = λ i memo e.
          let its = s.logs_are i memo e in
          grind (arith, its, decided_on its.decided (more_fronts old.fronts (old.offered + count)));
    }

module _ {O D T N : Type 0} {note : D → N} {Ao : T → O → Type 0} {An : T → N → Type 0} {key : Key T} {s : State (Slot O D) (View T N)}
    (r : Runs note Ao An key s) where
  -- the memo with which a seat came back shows the machine's seat
  shown : (i : ℕ) (memo : SeatMemo N) → get_elem? r.keeper.back i ≡ some (Some memo) → memo.view ≡ seat_at r.machine.seats i
  shown i memo at = let p = r.each_seat i (Some memo) at in p.2.shows ∙ ap (seat_at r.machine.seats) p.0

  -- once all seats are back, none holds a ticket
  none_left : AreAllBack r.keeper → (i t : ℕ) → Holds (seat_at r.machine.seats i) t → ⊥
  none_left back i t holds =
      let live = ((ring_of r).seats.each i).holder_is_live (ap is_some holds) in
      let made : i < length r.keeper.back = grind (arith, common_steps, r.knows.made_is, live_is_made r.machine.seats i live, r.knows.back_is, holds) in
      let b = some_there r.keeper.back i made (λ e. false≢true (back i None e)) in
      cc (live, shown i b.0 b.1, (r.each_seat i (Some b.0) b.1).1)

  -- the log of a seat that came back is whole, where something became of each ticket
  whole_log : (taken : List (ℕ × N)) → r.fates ≡ map Some taken → (i : ℕ) (memo : SeatMemo N)
      → get_elem? r.keeper.back i ≡ some (Some memo) → IsWholeLog r.keeper.fronts taken i memo
  whole_log taken all i memo at =
      let p = r.each_seat i (Some memo) at in
      let claimed : r.machine.word.claimed ≡ length taken = sym r.are_fates.each_claimed ∙ ap length all ∙ length-map taken Some in
      let within : end_from 0 memo.log ≤ length taken = omega (arith, p.2.below_claims, claimed) in
      let decided : AreAllDecided (length taken) (StandsIn r.keeper.fronts) (map fate_of memo.log) =
      record { rises = p.2.ordered.rises; within = within; at_front = λ j g e. p.2.lost_at_front j g (lost_in memo.log j g e) } in
      grind (arith, common_steps, p, all, decided, rw (← shown i memo at) at ((ring_of r).seats.each i))

  -- all steps stand in the order in which they were made, and then the keeper's look at a mark
  one_order : (mark : ℕ) → HaveOneOrder (waits mark r.keeper)
  one_order mark = record {
    positions = key.positions;
    limit = key.limit;
    positions_are = r.knows.counted.first_front;
    moves = r.moves;
    machine = r.machine;
    reached = r.reached;
    of_seats = λ i memo at. let p = r.each_seat i (Some memo) at in p.2.moved ∙ ap (λ j. by_seat j r.moves) p.0;
    of_keeper = (move See mark ∷ [], ap (λ moves. moves ++ move See mark ∷ []) r.knows.moved);
    counted = counted r;
    in_order = in_order r;
  }

  -- and where the next ticket is not finished, nothing is left
  pub settled : (seen : ℕ) → mark_at r.machine.marks (r.machine.reaped % r.machine.positions) ≢ r.machine.reaped + 1 → AreAllBack r.keeper
      → IsSettled (waits seen r.keeper)
  settled seen other back =
      let m : Machine = r.machine in
      let ring = ring_of r in
      let shown : ℕ = mark_at m.marks (m.reaped % m.positions) in
      let mark = ring.marks (m.reaped % m.positions) (mod-lt m.reaped ring.sizes.some_position) in
      let same = one_turn m.reaped (shown - 1) m.positions in
      let all_reaped : m.reaped ≡ m.word.claimed =
      grind (arith, mark, none_left back, mark.just_above (shown - 1), all_but_a_turn_reaped m ring, same, other, ring.permits.reaped_claimed) in
      let long = sym r.knows.counted.reaped_is ∙ all_reaped ∙ sym r.are_fates.each_claimed in
      let all = all_noted r.fates r.keeper.notes long r.knows.noted in
      record {
        taken = all.0;
        notes_are = all.1;
        seats_are = λ t i x e. (r.are_fates.finished t i x (rw all.2 (at_map Some all.0 t (i, x) e))).0;
        logs_are = whole_log all.0 all.2;
        order = one_order seen;
        go_on = λ p was memo rel at. let its = r.each_seat was.number (Some memo) at in its.2.goes_on p was rel (sym its.0);
      }

  -- so once all seats are back, the next ticket is finished only where some was not reaped
  pub not_over : (i : ℕ) (x : N) → get_elem? r.fates r.machine.reaped ≡ some (Some (i, x)) → AreAllBack r.keeper → ¬ IsAllReaped r.keeper
  not_over i x e back reaped =
      let b = some_there r.keeper.back i (omega (arith, r.knows.back_is, (r.are_fates.finished r.machine.reaped i x e).0))
      (λ e. false≢true (back i None e)) in
      let p = r.each_seat i (Some b.0) b.1 in
      let took = taken_in i 0 r.fates r.machine.reaped r.machine.reaped x (omega arith) e in
      let entry = got_from b.0.log took.0 r.machine.reaped x (rw (p.2.got, p.0) took.1) in
      omega (arith, reaped i b.0 b.1, r.knows.counted.reaped_is, within_end 0 b.0.log entry.0 (Got r.machine.reaped x) p.2.ordered.rises entry.1)

  -- so once all seats are back, their marks are those of all seats
  pub all_marks : AreAllBack r.keeper → (kind : ℕ) → kind < 2
      → (loss_at r.machine kind).value + (loss_at r.machine kind).swept ≡ sum_by (marks_back kind) r.keeper.back
  all_marks back kind low =
      let sums : sum_by (λ (v : SeatView). marks_of v kind) r.machine.seats ≡ sum_by (marks_back kind) r.keeper.back = elim r.knows.made_is [
        | inl made ↦ same_sums (λ (v : SeatView). marks_of v kind) (marks_back kind) nobody r.machine.seats r.keeper.back
            (r.knows.back_is ∙ made.1) (λ i low. let b = some_there r.keeper.back i low (λ e. false≢true (back i None e)) in
            (Some b.0, b.1, ap (λ (v : SeatView). marks_of v kind) (sym (shown i b.0 b.1))))
        | inr start ↦ rw (start.1, nil_from_length r.keeper.back (r.knows.back_is ∙ start.0)) (grind (arith, low))
      ] in
      grind (arith, sums, low, (ring_of r).loss0, (ring_of r).loss1)
