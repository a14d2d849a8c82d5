-- What ties the passes that came back to their claimants.
use Rattle.report_api.proofs.Names.{◌≡◌, ℕ, true, is_some, true≢false, Option, None, List, refl, sym, arith, inl, inr, at_length, there, Giver, Buffer, AllOf, GaveBack, giver_memo, below_or, nothing_past, AreTied, log_at, PassMemo, get_elem?, some, some_there}
use Rattle.permit_ring.specs.Closing.{AreAllBack}

module _ {sizes : List ℕ} {back : List (Option PassMemo)} {olds news : List Giver} {bufs : List Buffer} (tied : AreTied sizes back olds)
    (gave : AllOf (GaveBack bufs) olds news) where
  -- the giver that stands at a place now stood there before, and gave back
  pub stood : (i : ℕ) (new : Giver) → get_elem? news i ≡ some new → (old : Giver) × (get_elem? olds i ≡ some old) × GaveBack bufs i old new
  stood i new at =
      let old = there olds i (omega (arith, gave.as_many, at_length news i new at)) in (old.0, old.1, gave.each i old.0 new old.1 at)

  same_log : (i caller : ℕ) → log_at (get_elem? news i) caller ≡ log_at (get_elem? olds i) caller
  same_log i caller = elim (below_or news i) [
    | inl new ↦ let was = stood i new.0 new.1 in rw (new.1, was.1, was.2.back_is) refl
    | inr past ↦ rw (nothing_past news i past, nothing_past olds i (omega (arith, gave.as_many, past))) refl
  ]

  -- giving back leaves them tied
  pub tied_given : AreTied sizes back news
  tied_given = record {
    as_many = λ i giver at. let was = stood i giver at in grind (arith, was, tied.as_many i was.0 was.1);
    both = λ i caller giver pass at came. let was = stood i giver at in grind (arith, was, tied.both i caller was.0 pass was.1 came);
    follows = λ i caller. rw (same_log i caller) (tied.follows i caller);
    missing = tied.missing;
  }

module _ {sizes : List ℕ} {back : List (Option PassMemo)} {givers : List Giver} (tied : AreTied sizes back givers)
    (all : (i : ℕ) (came : Option PassMemo) → get_elem? back i ≡ some came → is_some came ≡ true) where
  -- once all passes are back, so are all claimants of each class
  pub claimants_back : (i : ℕ) (giver : Giver) → get_elem? givers i ≡ some giver → AreAllBack (giver_memo giver)
  claimants_back i giver at caller its e =
      let pass = some_there back caller (omega (arith, tied.as_many i giver at, at_length (giver_memo giver).back caller its e))
      (λ none. true≢false (sym (all caller None none))) in
      let memo = tied.both i caller giver pass.0 at pass.1 in
      grind (arith, e, memo.1)
