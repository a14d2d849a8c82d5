-- What holds of all parcels that come to a chain and that it keeps holds of all that it hands back and keeps then.
use Rattle.filter_chain.proofs.Names.{List, [], ◌∷◌, ◌++◌, Option, Some, None, IfSome, All, AllByRecursion, cons_option, All-append, All-from_recursion, recursion_from_All, Entry}
use Rattle.std.proofs.lemmas.List.Sorted.{All-permutation}
use Rattle.filter_chain.specs.Parcels.{HandsBack, all_parcels, parcel_of}

module _ {B : Type 0} (P : B → Type 0) where
  with_parcel : (parcel : Option B) (parcels : List B) → IfSome parcel P → AllByRecursion P parcels → AllByRecursion P (cons_option parcel parcels)
  with_parcel None parcels is all = all
  with_parcel (Some parcel) parcels is all = (is, all)

  -- what holds of each entry's parcel holds of the parcels of entries
  parcels_of : (items : List (Entry B)) → AllByRecursion (λ e. IfSome (parcel_of e.act) P) items → AllByRecursion P (all_parcels items)
  parcels_of [] all = tt
  parcels_of (e ∷ items) all = with_parcel (parcel_of e.act) (all_parcels items) all.0 (parcels_of items all.1)

  pub all_parcels_of : (items : List (Entry B)) → All (λ e. IfSome (parcel_of e.act) P) items → All P (all_parcels items)
  all_parcels_of items came = All-from_recursion P (all_parcels items) (parcels_of items (recursion_from_All _ items came))

  both_parts : (xs ys : List B) → AllByRecursion P (xs ++ ys) → AllByRecursion P xs × AllByRecursion P ys
  both_parts [] ys all = (tt, all)
  both_parts (x ∷ xs) ys all = let rest = both_parts xs ys all.1 in ((all.0, rest.0), rest.1)

  pub parcels_keep : (items : List (Entry B)) (before now back end : List B) → All (λ e. IfSome (parcel_of e.act) P) items → All P before
      → (hands : HandsBack (all_parcels items) before now back end) → All P hands.further × All P now
  parcels_keep items before now back end came kept hands =
      let all = All-permutation P _ _ hands.same (All-append P (all_parcels items) before (all_parcels_of items came) kept) in
      let parts = both_parts hands.further now (recursion_from_All _ _ all) in
      (All-from_recursion P hands.further parts.0, All-from_recursion P now parts.1)
