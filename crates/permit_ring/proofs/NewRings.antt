-- A ring that has just been made: it keeps the rule, and its keeper and seats stand.
use Rattle.permit_ring.proofs.Names.{◌≡◌, ℕ, zero, suc, ◌+◌, ◌%◌, ◌<◌, List, [], ◌∷◌, ◌++◌, length, refl, sym, ◌∙◌, ap, mod-eq_of_lt, arith, ⊎_elim, map, replicate, length_push, length-map, all_free, opening, packed, Slot, Ring, Seat, Key, Offered, IsOrdered, made_memo, IsNewSeat, AreNewSeats, new_memo, IsUntouched, SeatMemo, Option, None, replicate_more, first_memo, AllAdmitted, HasOffered, IsKey, first_view, Runs, at_map, get_elem?, some-ne-none, some, Split, move, opens}
use Rattle.permit_ring.proofs.ListLemmas.{at_end, there}
use Rattle.atomic_table.specs.Table as table

module _ {O D T N : Type 0} (note : D → N) (Ao : T → O → Type 0) (An : T → N → Type 0) (key : Key T) where
  -- a ring whose slots have admitted values, and whose words are those of the opening state, runs
  pub opens_running : (words : List ℕ) (slots : List (Slot O D)) (ys : List O) → IsKey key → length ys ≡ key.positions
      → slots ≡ map Offered ys → AllAdmitted (Ao key.terms) ys
      → words ≡ packed key.limit (all_free key.positions) ∷ 0 ∷ 0 ∷ replicate key.positions 0
      → Runs note Ao An key (table.opening words slots (first_view key))
  opens_running words slots ys sizes long are all told =
      let ring = opens key.positions key.limit sizes.some_position sizes.most_positions sizes.some_seat sizes.most_seats in
      let out = λ (i : ℕ). (ring.seats.each i).held_is_out in
      let last : (earlier : List ℕ) × (key.positions ∷ [] ≡ earlier ++ key.positions ∷ []) = ([], refl) in
      record {
        sizes = sizes;
        machine = opening key.positions key.limit;
        moves = [];
        reached = refl;
        words_are = told;
        fates = [];
        keeper = first_memo key.positions;
        are_fates = grind (arith, out);
        are_slots = rw are record {
          a_slot_each = length-map (map Offered ys) some ∙ length-map ys Offered ∙ long;
          each = λ t past below.
              let low : t < key.positions = omega arith in
              let is = there ys t (omega (arith, long)) in
              let here = at_map some (map Offered ys) t (Offered is.0) (at_map Offered ys t is.0 is.1) in
              let found : HasOffered {D = D} (get_elem? (map some (map Offered ys)) (t % key.positions)) (Ao key.terms) =
              (is.0, all t is.0 is.1, rw (mod-eq_of_lt low) here) in
              grind (arith, found, past, below);
        };
        keeper_there = refl;
        knows = grind (arith, last);
        owner = λ i. 0;
        -- the keeper alone is there
        each_view = λ port v e. let only = at_end [] (first_view key) v port e in grind (arith, only);
        each_seat = λ i back e. absurd (some-ne-none back (sym e));
      }

-- once all seats are made, nothing was taken or swept
pub untouched : {N : Type 0} (n made : ℕ) → IsUntouched {N = N} n made (made_memo n made)
untouched n zero = assumption
untouched n (suc zero) = assumption
untouched {N = N} n (suc (suc made)) =
    grind (arith, untouched {N = N} n (suc made), replicate_more {X = Option (SeatMemo N)} (suc made) None, replicate_more made (move Split 0))

-- the log of a seat that has just been made is in order
pub new_ordered : {N : Type 0} (i : ℕ) → IsOrdered (new_memo {N = N} i)
new_ordered i = record { decided = refl; rises = tt; sees = λ l j g rest at. absurd (some-ne-none rest (sym at)); below_ticket = λ t h. omega arith }

-- one seat more
pub one_seat_more : {F O D T N : Type 0} (Ao : T → O → Type 0) (ring : Ring F O D T N) (made : ℕ) (seats : List (Seat F O D T N))
    (seat : Seat F O D T N) → AreNewSeats Ao ring made seats → IsNewSeat Ao ring made seat
    → AreNewSeats Ao ring (made + 1) (seats ++ seat ∷ [])
one_seat_more Ao ring made seats seat were is = record {
  all_made = length_push seats seat ∙ ap (λ (k : ℕ). k + 1) were.all_made;
  each = λ i other e. ⊎_elim (were.each i other) (λ last. rw (last.0, were.all_made, ← last.1) is) (at_end seats seat other i e);
}
