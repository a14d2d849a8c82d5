-- What was taken once all callers are back, from what the ring's keeper knows.
use Rattle.report_queue.proofs.Names.{some_there, got_from, taken_in, more_fronts, gave_of, offer_keeps_order, length-map, some, some-injective, some-ne-none, ◌≡◌, ℕ, zero, suc, ◌+◌, List, [], ◌∷◌, map, length, Some, None, refl, sym, ap, ◌∙◌, false≢true, eq-zero-or-pos, inl, inr, arith, at_map, get_elem?, IsSettled, taken_by, StandsIn, KeeperMemo, SeatMemo, Item, AreAllBack, OffersAll, IsAllTaken, NamesItsCalls, items_of}
use Rattle.ids_types.proofs.FatesLemmas.{decided_on}

-- an element of a mapped list is that of the list, mapped
pub at_map_back : {A B : Type 0} (f : A → B) (l : List A) (i : ℕ) (b : B) → get_elem? (map f l) i ≡ some b → (a : A)
    × (get_elem? l i ≡ some a) × (f a ≡ b)
at_map_back f [] i b e = absurd (some-ne-none b (sym e))
at_map_back f (x ∷ l) zero b e = (x, refl, some-injective (f x) b e)
at_map_back f (x ∷ l) (suc i) b e = at_map_back f l i b e

module _ {N : Type 0} where
  -- tickets whose seats are the callers of their items
  same_items : (i f : ℕ) (taken : List (ℕ × Item N)) → ((t : ℕ) (p : ℕ × Item N) → get_elem? taken t ≡ some p → p.0 ≡ p.1.caller)
      → taken_by i f (map Some taken) ≡ items_of i f (map (λ (x : ℕ × Item N). x.1) taken)
  same_items i f [] same = refl
  same_items i f (p ∷ taken) same = cc (same 0 p refl, same_items i (suc f) taken (λ t q e. same (suc t) q e))

  -- giving back leaves what was taken
  pub taken_on : (seats count : ℕ) (old new : KeeperMemo (Item N)) → OffersAll seats count old new → IsAllTaken old → IsAllTaken new
  taken_on seats count old new gave is =
      let did = gave_of seats count old new gave in
      let on : (g : ℕ) → StandsIn old.fronts g → StandsIn new.fronts g =
      λ g s. grind (arith, did.fronts_are, eq-zero-or-pos count, more_fronts old.fronts (old.offered + count) g s) in
      record {
        go_on = rw (did.released_is, did.back_is) is.go_on;
        of_callers = rw (did.notes_are, did.back_is) is.of_callers;
        whole = λ i caller e.
            let its = is.whole i caller (rw did.back_is at e) in
            let decided = decided_on its.decided on in
            rw did.notes_are assumption;
        order = elim (eq-zero-or-pos count) [
          | inl none ↦ rw (gave.0 none) is.order
          | inr any ↦ offer_keeps_order seats count (gave.1 any).0 old new (gave.1 any).2 is.order
        ];
      }

  module _ (k : KeeperMemo (Item N)) (made : k.made ≡ length k.back)
      (names : (i : ℕ) (memo : SeatMemo (Item N)) → get_elem? k.back i ≡ some (Some memo) → NamesItsCalls memo.number memo.log)
      (all : AreAllBack k) (s : IsSettled k) where
    -- the seat that came back with a ticket's item named itself in it
    owner : (t : ℕ) (p : ℕ × Item N) → get_elem? s.taken t ≡ some p → p.0 ≡ p.1.caller
    owner t p e =
        let at = some_there k.back p.0 (rw made at (s.seats_are t p.0 p.1 e)) (λ none. false≢true (all p.0 None none)) in
        let whole = s.logs_are p.0 at.0 at.1 in
        let own = taken_in p.0 0 (map Some s.taken) t t p.1 (omega arith) (at_map Some s.taken t p e) in
        let got = got_from at.0.log own.0 t p.1 (rw whole.got own.1) in
        sym ((names p.0 at.0 at.1 got.0 t p.1 got.1).0 ∙ whole.number_is)

    pub all_taken : IsAllTaken k
    all_taken = record {
      of_callers = λ t item e.
          let found = at_map_back (λ (x : ℕ × Item N). x.1) s.taken t item (rw s.notes_are at e) in
          omega (arith, made, owner t found.0 found.1, ap (λ (x : Item N). x.caller) found.2, s.seats_are t found.0.0 found.0.1 found.1);
      whole = λ i memo at.
          let its = s.logs_are i memo at in
          rw s.notes_are (grind (arith, its, names i memo at, length-map s.taken (λ (x : ℕ × Item N). x.1), same_items i 0 s.taken owner));
      order = s.order;
      go_on = s.go_on;
    }
