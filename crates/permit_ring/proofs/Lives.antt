-- Splits and joins keep the rule: the keeper makes one more seat, or takes one back.
use Rattle.permit_ring.proofs.Names.{◌≡◌, ◌≢◌, ℕ, ◌+◌, ◌<◌, true, false, cond, eqb, List, [], ◌∷◌, ◌++◌, set, length, Some, None, GoesOn, refl, sym, ◌∙◌, ap, inl, inr, le_refl, eq-eqb, ne_eqb, arith, ⊎_elim, common_steps, length-append, length-set, State, Joins, Splits, at_set, set_here, set_else, at_longer, at_last, Machine, opening, new_seat, after, seat_at, is_idle, with_seat, SameHolders, holders_stay_push, live_is_made, holders_stay, seat_at-here, seat_at-else, SeatView, Split, Join, Key, KeeperMemo, Move, SeatMemo, Slot, View, Sits, Keeps, Spent, Leads, by_seat, by_keeper, join_both, split_right, IsSeatMemo, Runs, and_move, ended, new_memo, makes, welcomes, get_elem?, some, next_of_possible, lt-ltb, on_keeper}
use Rattle.permit_ring.proofs.LogLemmas.{taken_none}
use Rattle.permit_ring.proofs.ListLemmas.{at_end, at_length}
use Rattle.permit_ring.proofs.NewRings.{new_ordered}
use Rattle.permit_ring.proofs.States.{fates_stay, slots_stay, keeper_port, not_first, seated, sizes_of, leads_on, by_seat-on, by_keeper-on}

-- the seats and the moves after the seat of this number was made
record IsSplit (made : ℕ) (seats now : List SeatView) (moves then : List Move) : Type 0 where
  grown : made + 1 ≡ length now
  old : (i : ℕ) → i < made → seat_at now i ≡ seat_at seats i
  new : seat_at now made ≡ new_seat
  holders : SameHolders seats now
  quiet : (i : ℕ) → by_seat i then ≡ by_seat i moves

module _ {O D T N : Type 0} {note : D → N} {Ao : T → O → Type 0} {An : T → N → Type 0} {key : Key T} {s : State (Slot O D) (View T N)}
    (r : Runs note Ao An key s) (seats : List SeatView) (then : List Move)
    (split : IsSplit r.keeper.made r.machine.seats seats r.moves then) where
  abbrev kept : List (View T N)
  kept = set s.views 0 (Keeps key (makes r.keeper))

  abbrev newest : View T N
  newest = Sits key (new_memo r.keeper.made)

  -- the seats that were made before know what they knew, and the new one knows of no call
  known : (memo : SeatMemo N) → IsSeatMemo r.machine r.moves r.fates r.keeper.fronts r.keeper.released r.keeper.made memo
      → IsSeatMemo (record r.machine { seats = seats }) then r.fates r.keeper.fronts r.keeper.released (r.keeper.made + 1) memo
  known memo is = grind (arith, split)

  known_new : IsSeatMemo (record r.machine { seats = seats }) then r.fates r.keeper.fronts r.keeper.released (r.keeper.made + 1) (new_memo r.keeper.made)
  known_new =
      let none = taken_none r.keeper.made 0 r.fates (λ t x e. let done = r.are_fates.finished t r.keeper.made x e in omega arith) in
      grind (arith, common_steps, split, r.knows.unmade_rest, new_ordered {N = N} r.keeper.made, none)

  -- the rule after the split
  split_runs : Leads (opening key.positions key.limit) then (record r.machine { seats = seats }) → (makes r.keeper).moves ≡ by_keeper then
      → Runs note Ao An key record { words = s.words; homes = s.homes; views = kept ++ newest ∷ [] }
  split_runs led moved = record {
    sizes = r.sizes;
    machine = record r.machine { seats = seats };
    moves = then;
    reached = led;
    words_are = r.words_are;
    fates = r.fates;
    keeper = makes r.keeper;
    are_fates = fates_stay (omega arith) split.holders refl r.are_fates;
    are_slots = slots_stay refl refl refl r.are_slots;
    keeper_there = at_longer kept (newest ∷ []) 0 (Keeps key (makes r.keeper))
        (set_here s.views 0 (Keeps key (makes r.keeper)) (at_length s.views 0 (Keeps key r.keeper) r.keeper_there));
    knows = grind (arith, r.knows, moved, split, length-append r.keeper.back (None ∷ []));
    -- the new one gets the next port
    owner = λ i. cond (eqb i r.keeper.made) (length s.views) (r.owner i);
    each_view = λ port v e.
        let before = at_set s.views 0 port (Keeps key (makes r.keeper)) v in
        grind (arith, at_end kept newest v port e, before, r.each_view port v, known, known_new, length-set, eq-eqb, ne_eqb);
    -- each seat of before is where it was, and the new one is at its port
    each_seat = λ i back e. ⊎_elim
        (λ before.
        let less = at_length r.keeper.back i back before in
        let else = set_else s.views 0 (r.owner i) (Keeps key (makes r.keeper)) in
        grind (arith, before, less, r.knows.back_is, r.each_seat i back, else, not_first r (r.owner i), at_longer kept (newest ∷ []) (r.owner i), known, ne_eqb))
        (λ last.
        let here : i ≡ r.keeper.made = last.0 ∙ r.knows.back_is in
        let end = at_last kept newest (length s.views) (length-set s.views 0 (Keeps key (makes r.keeper))) in
        rw (← last.1) (new_memo r.keeper.made, sym here, rw (eq-eqb i r.keeper.made here) end))
        (at_end r.keeper.back None back i e);
  }

module _ {O D T N : Type 0} (note : D → N) (Ao : T → O → Type 0) (An : T → N → Type 0) (key : Key T) where
  -- the keeper may make one more seat where fewer were made than may be
  pub splits_allowed : (id : ℕ) (v : View T N) (k : KeeperMemo N) → v ≡ Keeps key k → k.made < key.limit
      → Splits (Runs note Ao An key) id v (on_keeper makes v) (split_right v)
  splits_allowed id v k is room s r at =
      let p = keeper_port r (at ∙ ap some is) in
      let few : r.keeper.made < key.limit = rw p.1 at room in
      rw (is, p.0, p.1) (elim r.knows.made_is [
        | inl all ↦
            let can = next_of_possible r.machine Split (lt-ltb (length r.machine.seats) r.machine.limit (omega (arith, sizes_of r))) in
            split_runs r (r.machine.seats ++ new_seat ∷ []) (and_move r.moves Split 0)
            (grind (arith, common_steps, all, by_seat-on r.moves Split 0, holders_stay_push r.machine.seats))
            (leads_on (opening key.positions key.limit) r.machine (after r.machine Split) r.moves Split r.reached can)
            (rw (ne_eqb r.keeper.made 0 (λ e. omega arith), by_keeper-on r.moves Split 0, r.knows.moved) refl)
        | inr first ↦ split_runs r r.machine.seats r.moves (grind (arith, common_steps, first)) r.reached
            (rw (eq-eqb r.keeper.made 0 first.0) r.knows.moved)
      ])

  -- the keeper may take an idle seat back
  pub joins_allowed : (id other : ℕ) (v w : View T N) (k : KeeperMemo N) (memo : SeatMemo N) → v ≡ Keeps key k → w ≡ Sits key memo
      → is_idle memo.view ≡ true → Joins (Runs note Ao An key) id v other w (join_both v w) Spent
  joins_allowed id other v w k memo keeps sits idle s r at apart at_other =
      let p = keeper_port r (at ∙ ap some keeps) in
      let there : get_elem? s.views other ≡ some (Sits key memo) = cc (set_else s.views id other (join_both v w) apart) in
      let m : Machine = r.machine in
      let its = (seated r other there).2 in
      -- the seat that ends, as the machine has it
      let gone : SeatView = record (seat_at m.seats memo.number) { live = false } in
      let now : Machine = with_seat m memo.number gone in
      let moves : List Move = and_move r.moves (Join memo.number) 0 in
      let made = live_is_made m.seats memo.number (rw its.shows at (seated r other there).1) in
      -- each other seat that was made knows what it knew
      let known : (k : SeatMemo N) → k.number ≢ memo.number → IsSeatMemo m r.moves r.fates r.keeper.fronts r.keeper.released r.keeper.made k
      → IsSeatMemo now moves r.fates r.keeper.fronts r.keeper.released r.keeper.made k =
      λ k apart was. grind (arith, seat_at-else m.seats memo.number gone made, by_seat-on) in
      -- and so does this one, but that it is not live any more
      let on : (p : ℕ) (was : SeatMemo N) → get_elem? r.keeper.released p ≡ some was → was.number ≡ memo.number → GoesOn was (ended memo) =
      λ p was e same. let before = its.goes_on p was e same in
      record { calls = before.calls; log_is = before.log_is; rests = before.rests; rests_are = before.rests_are } in
      let ends : IsSeatMemo now moves r.fates r.keeper.fronts r.keeper.released r.keeper.made (ended memo) =
      grind (arith, common_steps, its, seat_at-here m.seats memo.number gone made, by_seat-on, on) in
      let kept : List (View T N) = set s.views 0 (Keeps key (welcomes memo r.keeper)) in
      rw (keeps, sits, p.0, p.1) record {
        sizes = r.sizes;
        machine = now;
        moves = moves;
        reached = leads_on (opening key.positions key.limit) m now r.moves (Join memo.number) r.reached
            (next_of_possible m (Join memo.number) (rw its.shows at idle));
        words_are = r.words_are;
        fates = r.fates;
        keeper = welcomes memo r.keeper;
        are_fates = fates_stay (le_refl r.keeper.made) (holders_stay m.seats memo.number gone made refl) refl r.are_fates;
        are_slots = slots_stay refl refl refl r.are_slots;
        keeper_there = set_else kept other 0 Spent (λ e. not_first r other there (sym e))
            ∙ set_here s.views 0 (Keeps key (welcomes memo r.keeper)) (at_length s.views 0 (Keeps key r.keeper) r.keeper_there);
        knows = grind (arith, r.knows, its.is_made, by_keeper-on, by_seat-on, length-set);
        owner = r.owner;
        each_view = λ port v e.
            let before = at_set s.views 0 port (Keeps key (welcomes memo r.keeper)) v in
            grind (arith, at_set kept other port Spent v e, before, r.each_view port v, known, (seated r other there).0);
        each_seat = λ i back e.
            let back_now = at_set r.keeper.back memo.number i (Some (ended memo)) back e in
            let else = set_else s.views 0 (r.owner i) (Keeps key (welcomes memo r.keeper)) in
            grind (arith, back_now, r.each_seat i back, set_else kept other (r.owner i) Spent, else, not_first r (r.owner i), there, known, ends);
      }
