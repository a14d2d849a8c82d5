-- What a manager between two calls can do, and what it is after a turn.
use Rattle.main_function.proofs.Names.{◌≡◌, ℕ, ◌≤◌, List, [], ◌++◌, IfSome, subst, sym, arith, All, common_steps, All-weaker, recursion_from_All, Entry, AllAdmitted, HandsBack, all_parcels, FitsAct, FitsLargest, parcel_of, Buffer, AreBuffersIn, queue_positions, DeskMemo, sizes_of, term_sizes, Shared, IsHeld, held, IsManagerOf, Took, Manager, nat_tests}
use Rattle.std.specs.List.Sorted.{IsPermutation}
use Rattle.main_function.proofs.FittingLemmas.{held_in, of_items}
use Rattle.main_function.proofs.LargestLemmas.{largest_admits}
use Rattle.filter_chain.proofs.ParcelLemmas.{parcels_keep}

module _ {C L : Type 0} {events : C → ℕ} {kept : C → List Buffer} {shared : Shared} {m : Manager C L} (mine : IsManagerOf events kept shared m) where
  pub within : AllAdmitted (λ size. size ≤ m.largest) (term_sizes shared.terms)
  within = subst (AllAdmitted (λ size. size ≤ m.largest)) mine.desk_is.is_shared.sizes_are (rw mine.largest_is (largest_admits 0 (sizes_of shared)))

  given : AllAdmitted (λ size. 1 ≤ size) (term_sizes shared.terms)
  given = subst (AllAdmitted (λ size. 1 ≤ size)) mine.desk_is.is_shared.sizes_are mine.sizes_given

  pub are_held : All (IsHeld (term_sizes shared.terms)) (kept m.chain)
  are_held = subst (λ sizes. All (IsHeld sizes) (kept m.chain)) mine.desk_is.is_shared.sizes_are mine.kept_are

  -- what is held is no larger than the largest class
  pub held_fit : (bufs : List Buffer) → All (IsHeld (term_sizes shared.terms)) bufs → All (FitsLargest held m.largest) bufs
  held_fit = All-weaker (IsHeld (term_sizes shared.terms)) (FitsLargest held m.largest)
      (λ buf is. grind (arith, nat_tests, within buf.class buf.size is.size_is, given buf.class buf.size is.size_is, is.fits))

  module _ {old new : DeskMemo} {taken : List (Entry Buffer)} (took : Took shared.terms (queue_positions shared.queue) old taken new) where
    pub items_are : All (λ (e : Entry Buffer). FitsAct held shared.terms.events e.act) taken × All (λ (e : Entry Buffer). IfSome (parcel_of e.act) (IsHeld (term_sizes shared.terms))) taken
    items_are = of_items shared.terms m.largest within mine.roomy.short taken took.admitted

    module _ {now back_before back : List Buffer} (hands : HandsBack (all_parcels taken) (kept m.chain) now back_before back) where
      -- what comes out of the turn is given back or kept
      pub come_back : back_before ≡ [] → AreBuffersIn (sizes_of shared) back × All (IsHeld (sizes_of shared)) now
          × IsPermutation (all_parcels taken ++ kept m.chain) (back ++ now)
      come_back empty =
          let are = parcels_keep (IsHeld (term_sizes shared.terms)) taken (kept m.chain) now back_before back items_are.1 are_held hands in
          let same : hands.further ≡ back = grind (arith, common_steps, hands.back, empty) in
          let sizes = mine.desk_is.is_shared.sizes_are in (
            subst (AreBuffersIn (sizes_of shared)) same (rw sizes (held_in _ hands.further (recursion_from_All _ _ are.0))),
            subst (λ sizes. All (IsHeld sizes) now) (sym sizes) are.1,
            rw (← same) hands.same,
          )
