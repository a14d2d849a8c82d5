-- A pass that was held goes on with its claimant.
use Rattle.report_api.proofs.Names.{◌≡◌, ℕ, ◌≢◌, ◌∙◌, None, Some, slice_set, ap, refl, inl, inr, arith, length-set, length-map, at_set, set_else, at_length, there, seat_memo, Giver, AllOf, giver_memo, givers_of, log_of, below_or, nothing_past, AreTied, log_at, desk_memo, PassMemo, IsPassOf, pass_memo, sizes_of, Pass, Shared, get_elem?, some, Class, Follows, Freed, IsClaimSeatOf, resumed, resumes, GoesOn, IsDeskOf, IsNextPass, asks_of, calls_in, Desk}
use Rattle.buffer_classes.specs.Names as classes

module _ (shared : Shared) (desk after : Desk) (pass now : Pass) (mine : IsDeskOf shared desk) (next : IsNextPass shared desk pass)
    (told : GoesOn shared.queue desk.taker now.seat after.taker) (seat : IsClaimSeatOf shared.classes now.claimant)
    (freed : AllOf (Freed now.claimant) (givers_of desk.givers) (givers_of after.givers)) where
  abbrev caller : ℕ
  caller = next.memo.number

  same : told.told.memo ≡ next.memo
  same = grind (arith, told.told.is_first, next.is_first)

  -- what the desk and the pass know now
  pub desk_is : desk_memo after ≡ resumes next.memo (desk_memo desk)
  desk_is = told.told.keeper_is ∙ ap (λ (memo : PassMemo). resumes memo (desk_memo desk)) same

  pub seat_is : pass_memo now ≡ resumed (desk_memo desk).offered next.memo
  seat_is = told.told.seat_is ∙ ap (resumed (desk_memo desk).offered) same

  -- what a giver knew before, and the seat that went on there
  pub went : (i : ℕ) (new : Giver) → get_elem? (givers_of after.givers) i ≡ some new → (old : Giver) × (s : classes.ClassSeat)
      × (get_elem? (givers_of desk.givers) i ≡ some old) × (get_elem? now.claimant.seats.items i ≡ some s)
      × ((giver_memo new).back ≡ slice_set (giver_memo old).back caller None) × ((seat_memo s).log ≡ (next.memos i).log)
  went i new at =
      let below = at_length (givers_of after.givers) i new at in
      let old = there (givers_of desk.givers) i (omega (arith, below, freed.as_many)) in
      let s = there now.claimant.seats.items i (omega (arith, below, freed.as_many, mine.givers.all, seat.all)) in
      let was = there pass.claimant.seats.items i (omega (arith, below, freed.as_many, mine.givers.all, next.held.claimant.all)) in
      let did = freed.each i old.0 new old.1 at s.0 s.1 in
      let memo_is : did.told.memo ≡ next.memos i = grind (arith, did.told.is_first, next.firsts i old.0 old.1) in
      let number = (next.held.claimant.each i was.0 was.1).number_is ∙ next.held.number_is in
      (old.0, s.0, old.1, s.1, grind (arith, did.told.keeper_is, memo_is, number), grind (arith, did.told.seat_is, memo_is))

  -- where a pass stands now, it stood before, and it is another
  stands : (c : ℕ) (other : PassMemo) → get_elem? (desk_memo after).back c ≡ some (Some other)
      → (c ≢ caller) × (get_elem? (desk_memo desk).back c ≡ some (Some other))
  stands c other at = grind (arith, at_set (desk_memo desk).back caller c None (Some other) (rw desk_is at at))

  log_else : (i c : ℕ) → c ≢ caller → log_at (get_elem? (givers_of after.givers) i) c ≡ log_at (get_elem? (givers_of desk.givers) i) c
  log_else i c apart = elim (below_or (givers_of after.givers) i) [
    | inl new ↦ let was = went i new.0 new.1 in grind (arith, new.1, was, set_else (giver_memo was.0).back caller c, apart)
    | inr past ↦ rw (nothing_past (givers_of after.givers) i past, nothing_past (givers_of desk.givers) i (omega (arith, past, freed.as_many))) refl
  ]

  -- the desk and its givers let go of the same place
  pub tied_released : AreTied (sizes_of shared) (desk_memo after).back (givers_of after.givers)
  tied_released = record {
    as_many = λ i giver at.
        let was = went i giver at in grind (arith, was, desk_is, mine.tied.as_many i was.0 was.2, length-set);
    both = λ i c giver other at e.
        let was = went i giver at in
        let stood = stands c other e in
        let old = mine.tied.both i c was.0 other was.2 stood.1 in
        (old.0, grind (arith, was, old, set_else (giver_memo was.0).back caller c None stood.0));
    follows = λ i c other e. let stood = stands c other e in rw (log_else i c stood.0) (mine.tied.follows i c other stood.1);
    missing = λ c other e. mine.tied.missing c other (stands c other e).1;
  }

  log_is : (i : ℕ) → log_of now.claimant i ≡ (next.memos i).log
  log_is i = elim (below_or now.claimant.seats.items i) [
    | inl s ↦
        let new = there (givers_of after.givers) i (omega (arith, at_length now.claimant.seats.items i s.0 s.1, seat.all, mine.givers.all, freed.as_many)) in
        grind (arith, s.1, went i new.0 new.1)
    | inr past ↦
        let many = length-map shared.classes.classes.items (λ (class : Class). class.size) in
        grind (arith, nothing_past now.claimant.seats.items i past, next.held.none_past i, many, seat.all, past)
  ]

  pub pass_again : (now.claimant.number ≡ pass.claimant.number) × (now.claimant.claims ≡ pass.claimant.claims) → now.spare ≡ pass.spare
      → IsPassOf shared now
  pass_again stays spare =
      let asks : (i : ℕ) → Follows (sizes_of shared) i (calls_in (pass_memo now).log) (asks_of now i) =
      λ i. rw (log_is i, seat_is) (next.held.asks i) in
      grind (arith, next.held, told.caller, seat, seat_is, stays, spare, asks)
