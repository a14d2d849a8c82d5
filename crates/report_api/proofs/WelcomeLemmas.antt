-- A pass that comes back with its claimant.
use Rattle.report_api.proofs.Names.{◌≡◌, ℕ, ◌<◌, ◌≢◌, ◌⊎◌, ◌≤◌, Option, Some, List, [], length, length-map, slice_set, refl, inl, inr, arith, length-set, at_set, set_here, set_else, at_length, there, seat_memo, ended, Giver, AllOf, Welcomed, giver_memo, log_of, below_or, nothing_past, AreTied, log_at, PassMemo, IsPassOf, pass_memo, sizes_of, Pass, Shared, get_elem?, some, Class, IsHeldClaimant, memo_at, IsHeldCaller, IsHeldPass}
use Rattle.buffer_classes.specs.Names as classes

module _ {shared : Shared} {pass : Pass} {back : List (Option PassMemo)} {olds news : List Giver} (its : IsPassOf shared pass)
    (as_many : length olds ≡ length shared.classes.classes.items)
    (tied : AreTied (sizes_of shared) back olds) (welcomed : AllOf (Welcomed pass.claimant) olds news) where
  abbrev caller : ℕ
  caller = (pass_memo pass).number

  abbrev new_back : List (Option PassMemo)
  new_back = slice_set back caller (Some (ended (pass_memo pass)))

  -- what a giver knew before, and the seat that came back there
  pub came : (i : ℕ) (new : Giver) → get_elem? news i ≡ some new → (old : Giver) × (seat : classes.ClassSeat) × (get_elem? olds i ≡ some old)
      × (get_elem? pass.claimant.seats.items i ≡ some seat)
      × ((giver_memo new).back ≡ slice_set (giver_memo old).back caller (Some (ended (seat_memo seat))))
  came i new at =
      let below = at_length news i new at in
      let old = there olds i (omega (arith, below, welcomed.as_many)) in
      let seat = there pass.claimant.seats.items i (omega (arith, below, welcomed.as_many, as_many, its.at.claimant.all)) in
      let class = there shared.classes.classes.items i (omega (arith, below, welcomed.as_many, as_many)) in
      let his = its.at.claimant.each i class.0 seat.0 class.1 seat.1 in
      let told = welcomed.each i old.0 new old.1 at seat.0 seat.1 in
      (old.0, seat.0, old.1, seat.1, grind (arith, told, his, its.at.number_is, its.at.caller.number_is))

  -- where a pass stands now, either it is this one, or it stood there before
  stands : (c : ℕ) (other : PassMemo) → get_elem? new_back c ≡ some (Some other)
      → ((c ≡ caller) × (caller < length back) × (ended (pass_memo pass) ≡ other)) ⊎ ((c ≢ caller) × (get_elem? back c ≡ some (Some other)))
  stands c other at =
      grind (arith, at_set back caller c, at_length new_back c, length-set back caller)

  log_there : (i : ℕ) → caller < length back → log_at (get_elem? news i) caller ≡ log_of pass.claimant i
  log_there i below = elim (below_or news i) [
    | inl new ↦
        let was = came i new.0 new.1 in
        grind (arith, new.1, was, set_here (giver_memo was.0).back caller, tied.as_many i was.0 was.2, below)
    | inr past ↦ grind (arith, nothing_past news i past, nothing_past pass.claimant.seats.items i, past, welcomed.as_many, as_many, its.at.claimant.all)
  ]

  log_else : (i c : ℕ) → c ≢ caller → log_at (get_elem? news i) c ≡ log_at (get_elem? olds i) c
  log_else i c apart = elim (below_or news i) [
    | inl new ↦ let was = came i new.0 new.1 in grind (arith, new.1, was, set_else (giver_memo was.0).back caller c, apart)
    | inr past ↦ rw (nothing_past news i past, nothing_past olds i (omega (arith, past, welcomed.as_many))) refl
  ]

  -- the pass and its claimant take the same place
  pub tied_welcome : AreTied (sizes_of shared) new_back news
  tied_welcome = record {
    as_many = λ i giver at.
        let was = came i giver at in grind (arith, was, tied.as_many i was.0 was.2, length-set);
    both = λ i c giver other at e.
        let was = came i giver at in
        elim (stands c other e) [
          | inl here ↦ (ended (seat_memo was.1), grind (arith, was, here, set_here (giver_memo was.0).back caller, tied.as_many i was.0 was.2))
          | inr apart ↦
              let old = tied.both i c was.0 other was.2 apart.1 in
              (old.0, grind (arith, was, old, apart, set_else (giver_memo was.0).back caller c))
        ];
    follows = λ i c other e. grind (arith, stands c other e, log_there i, log_else i c, its.at.asks i, tied.follows i c other);
    missing = λ c other e. grind (arith, stands c other e, its.at.contexts_are, tied.missing c other);
  }

-- a pass whose seats are held is held
pub held_now : {shared : Shared} {pass : Pass} → IsPassOf shared pass → (now : Pass) → IsHeldCaller (ended (pass_memo pass)) now.seat
    → IsHeldClaimant shared.classes (λ i. ended (memo_at pass.claimant i)) now.claimant
    → (now.claimant.number ≡ pass.claimant.number) × (now.claimant.claims ≡ pass.claimant.claims) → now.spare ≡ pass.spare
    → IsHeldPass shared (ended (pass_memo pass)) (λ i. ended (memo_at pass.claimant i)) now
held_now {shared} {pass} its now caller claimant same spare =
    let past : (i : ℕ) → length (sizes_of shared) ≤ i → log_of pass.claimant i ≡ [] =
    λ i low. grind (arith, nothing_past pass.claimant.seats.items i, its.at.claimant.all, length-map shared.classes.classes.items (λ (class : Class). class.size), low) in
    grind (arith, its, caller, claimant, same, spare, past)
