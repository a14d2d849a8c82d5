-- A seat that is held leaves an empty token, and one that is released goes on with a new one: both keep the rule.
use Rattle.permit_ring.proofs.Names.{◌≡◌, ◌≢◌, ℕ, zero, suc, ◌<◌, ◌≤◌, true, false, cond, eqb, List, [], ◌∷◌, ◌++◌, set, length, Option, Some, None, append-nil, append_assoc, GoesOn, refl, sym, ◌∙◌, ap, le_refl, eq-eqb, ne_eqb, arith, ⊎_elim, common_steps, length-set, State, Splits, at_set, at_snoc, set_here, set_else, set_again, at_longer, at_last, Machine, opening, seat_at, with_seat, holders_stay, seat_at-here, seat_at-else, SeatView, Resume, Key, KeeperMemo, Lost, Move, Rest, SeatMemo, Slot, View, Sits, Keeps, Spent, release_left, release_right, IsSeatMemo, IsOrdered, Runs, and_move, first_back, resumes, resumed, get_elem?, some, next_of_possible}
use Rattle.permit_ring.proofs.ListLemmas.{at_end, at_length}
use Rattle.permit_ring.proofs.States.{fates_stay, slots_stay, keeper_port, not_first, ring_of, leads_on, by_seat-on, by_keeper-on}

-- the first seat that is back stands among those that are
pub first_at : {N : Type 0} (back : List (Option (SeatMemo N))) (memo : SeatMemo N) → first_back back ≡ Some memo
    → (i : ℕ) × (get_elem? back i ≡ some (Some memo))
first_at [] memo e = absurd (grind arith)
first_at (None ∷ back) memo e = let rest = first_at back memo e in (suc rest.0, rest.1)
first_at (Some other ∷ back) memo e = (zero, ap some e)

-- an idle seat that rests and goes on has made no call since
pub rested_ordered : {N : Type 0} (memo : SeatMemo N) (offered : ℕ) → IsOrdered memo → memo.view.held ≡ None → memo.view.armed ≡ false
    → IsOrdered (resumed offered memo)
rested_ordered memo offered o none idle = record {
  decided = o.decided;
  rises = o.rises;
  sees = λ l j g rest at past lost.
      let low = at_length memo.log j (Lost g) lost in
      ⊎_elim (λ old. o.sees l j g rest old past lost)
      (λ new. let calls : memo.view.calls ≡ length memo.log = grind (arith, common_steps, o.decided) in absurd (grind (arith, new, calls, low)))
      (at_snoc memo.rests (record { calls = memo.view.calls; offered = offered }) rest l at);
  below_ticket = o.below_ticket;
}

-- a memo goes on from itself, and with one rest more
same_still : {N : Type 0} (memo : SeatMemo N) → GoesOn memo memo
same_still memo = record { calls = []; log_is = sym (append-nil memo.log); rests = []; rests_are = sym (append-nil memo.rests) }

more_rests : {N : Type 0} {was memo : SeatMemo N} (offered : ℕ) → GoesOn was memo → GoesOn was (resumed offered memo)
more_rests {was = was} {memo} offered on = record {
  calls = on.calls;
  log_is = on.log_is;
  rests = on.rests ++ record { calls = memo.view.calls; offered = offered } ∷ [];
  rests_are = ap (λ (rests : List Rest). rests ++ record { calls = memo.view.calls; offered = offered } ∷ []) on.rests_are ∙ append_assoc was.rests on.rests _;
}

-- the first seat that is back is idle, and knows what it knew
record IsBack {N : Type 0} (m : Machine) (memo : SeatMemo N) : Type 0 where
  none_held : memo.view.held ≡ None
  not_armed : memo.view.armed ≡ false
  ended : memo.view.live ≡ false

module _ {O D T N : Type 0} {note : D → N} {Ao : T → O → Type 0} {An : T → N → Type 0} {key : Key T} {s : State (Slot O D) (View T N)}
    (r : Runs note Ao An key s) (memo : SeatMemo N) (first : first_back r.keeper.back ≡ Some memo) where
  back_there : (get_elem? r.keeper.back memo.number ≡ some (Some memo)) × IsBack r.machine memo
      × IsSeatMemo r.machine r.moves r.fates r.keeper.fronts r.keeper.released r.keeper.made memo
  back_there =
      let here = first_at r.keeper.back memo first in
      let was = r.each_seat here.0 (Some memo) here.1 in
      let idle : IsBack r.machine memo = grind (arith, common_steps, was.1, was.2.shows, (ring_of r).seats.each memo.number) in
      (ap (get_elem? r.keeper.back) was.0 ∙ here.1, idle, was.2)

module _ {O D T N : Type 0} (note : D → N) (Ao : T → O → Type 0) (An : T → N → Type 0) (key : Key T) where
  -- the keeper may make a token that knows nothing
  pub blanks_allowed : (id : ℕ) (v : View T N) → Splits (Runs note Ao An key) id v v Spent
  blanks_allowed id v s r at = rw (set_again s.views id v at) record {
    sizes = r.sizes;
    machine = r.machine;
    moves = r.moves;
    reached = r.reached;
    words_are = r.words_are;
    fates = r.fates;
    keeper = r.keeper;
    are_fates = r.are_fates;
    are_slots = r.are_slots;
    keeper_there = at_longer s.views (Spent ∷ []) 0 (Keeps key r.keeper) r.keeper_there;
    knows = r.knows;
    owner = r.owner;
    each_view = λ port w e. grind (arith, at_end s.views Spent w port e, r.each_view port w);
    each_seat = λ i back e. grind (arith, r.each_seat i back e, at_longer s.views (Spent ∷ []) (r.owner i));
  }

  -- the keeper may release the first seat that is back
  pub releases_allowed : (id : ℕ) (v : View T N) (k : KeeperMemo N) (memo : SeatMemo N) → v ≡ Keeps key k → first_back k.back ≡ Some memo
      → Splits (Runs note Ao An key) id v (release_left v) (release_right v)
  releases_allowed id v k memo is first s r at =
      let p = keeper_port r (at ∙ ap some is) in
      let m : Machine = r.machine in
      let there : first_back r.keeper.back ≡ Some memo = rw p.1 at first in
      let its = back_there r memo there in
      let seat : SeatView = record (seat_at m.seats memo.number) { live = true } in
      let now : Machine = with_seat m memo.number seat in
      let moves : List Move = and_move r.moves (Resume memo.number) 0 in
      let made : memo.number < length m.seats = grind (arith, its, r.knows.made_is) in
      let again : SeatMemo N = resumed r.keeper.offered memo in
      let released : List (SeatMemo N) = r.keeper.released ++ again ∷ [] in
      -- each other seat that was made knows what it knew
      let known : (k : SeatMemo N) → k.number ≢ memo.number → IsSeatMemo m r.moves r.fates r.keeper.fronts r.keeper.released r.keeper.made k
      → IsSeatMemo now moves r.fates r.keeper.fronts released r.keeper.made k =
      λ k apart was.
      let on : (p : ℕ) (before : SeatMemo N) → get_elem? released p ≡ some before → before.number ≡ k.number → GoesOn before k =
      λ p before e same. ⊎_elim (λ old. was.goes_on p before old same) (λ new. absurd (apart (sym same ∙ ap (λ (m : SeatMemo N). m.number) (sym new))))
      (at_snoc r.keeper.released again before p e) in
      grind (arith, seat_at-else m.seats memo.number seat made, by_seat-on, was, on) in
      -- and so does this one, which is live again
      let goes : IsSeatMemo now moves r.fates r.keeper.fronts released r.keeper.made again =
      let ordered = rested_ordered memo r.keeper.offered its.2.ordered its.1.none_held its.1.not_armed in
      let rested : (l : ℕ) (rest : Rest) → get_elem? again.rests l ≡ some rest → rest.offered ≤ m.offered =
      λ l rest e. let known = its.2.rested l rest in grind (arith, at_snoc memo.rests (record { calls = memo.view.calls; offered = r.keeper.offered }) rest l e, known, r.knows.counted) in
      let on : (p : ℕ) (before : SeatMemo N) → get_elem? released p ≡ some before → before.number ≡ memo.number → GoesOn before again =
      λ p before e same. ⊎_elim (λ old. more_rests r.keeper.offered (its.2.goes_on p before old same)) (λ new. rw (← new) (same_still again))
      (at_snoc r.keeper.released again before p e) in
      grind (arith, common_steps, its, seat_at-here m.seats memo.number seat made, by_seat-on, ordered, rested, on) in
      let kept : List (View T N) = set s.views 0 (Keeps key (resumes memo r.keeper)) in
      let newest : View T N = Sits key again in
      rw (is, p.0, p.1, there) record {
        sizes = r.sizes;
        machine = now;
        moves = moves;
        reached = leads_on (opening key.positions key.limit) m now r.moves (Resume memo.number) r.reached
            (next_of_possible m (Resume memo.number) (grind (arith, common_steps, its, made)));
        words_are = r.words_are;
        fates = r.fates;
        keeper = resumes memo r.keeper;
        are_fates = fates_stay (le_refl r.keeper.made) (holders_stay m.seats memo.number seat made refl) refl r.are_fates;
        are_slots = slots_stay refl refl refl r.are_slots;
        keeper_there = at_longer kept (newest ∷ []) 0 (Keeps key (resumes memo r.keeper))
            (set_here s.views 0 (Keeps key (resumes memo r.keeper)) (at_length s.views 0 (Keeps key r.keeper) r.keeper_there));
        knows = grind (arith, r.knows, its, by_keeper-on, by_seat-on, length-set, λ (p : ℕ) (before : SeatMemo N). at_snoc r.keeper.released again before p);
        owner = λ i. cond (eqb i memo.number) (length s.views) (r.owner i);
        each_view = λ port v e.
            let before = at_set s.views 0 port (Keeps key (resumes memo r.keeper)) v in
            grind (arith, at_end kept newest v port e, before, r.each_view port v, known, goes, its, length-set, eq-eqb, ne_eqb);
        each_seat = λ i back e.
            let else = set_else s.views 0 (r.owner i) (Keeps key (resumes memo r.keeper)) in
            let end = at_last kept newest (length s.views) (length-set s.views 0 (Keeps key (resumes memo r.keeper))) in
            ⊎_elim
            (λ here. rw (← here.1) (again, sym here.0, rw (eq-eqb i memo.number here.0) end))
            (λ other. grind (arith, other, r.each_seat i back other.1, else, at_longer kept (newest ∷ []) (r.owner i), not_first r (r.owner i), known, its, ne_eqb))
            (at_set r.keeper.back memo.number i None back e);
      }
