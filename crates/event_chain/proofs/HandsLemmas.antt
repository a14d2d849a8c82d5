-- Parcels that are handed back, by one call after another.
use Rattle.event_chain.proofs.Names.{◌≡◌, Bool, true, false, List, [], ◌++◌, Option, None, option_to_list, sym, append_assoc, append-nil, if◌then◌else◌, IsPermutation-refl, IsPermutation-trans, IsPermutation-append_right, HandsBack}
use Rattle.filter_aggregate.proofs.AccountLemmas.{swapped}

module _ {B : Type 0} where
  -- before any call all that came waits
  pub hands_none : (came kept back : List B) → HandsBack came kept (came ++ kept) back back
  hands_none came kept back = record { further = []; back = sym (append-nil back); same = IsPermutation-refl (came ++ kept) }

  -- what comes is handed back, or goes into another call
  pub hands_kept : (keeps : Bool) (came : Option B) {kept now back mid end : List B}
      → mid ≡ back ++ (if keeps then [] else option_to_list came)
      → HandsBack (option_to_list (if keeps then came else None)) kept now mid end
      → HandsBack (option_to_list came) kept now back end
  hands_kept true came is hands = rw (is, append-nil) at hands
  hands_kept false came is hands = record {
    further = option_to_list came ++ hands.further;
    back = rw (is, append_assoc) at hands.back;
    same = rw append_assoc (IsPermutation-append_right (option_to_list came) _ _ hands.same);
  }

  -- of what is still to come one call takes its own
  pub hands_next : (own rest mid : List B) {came kept now back between end : List B}
      → HandsBack came kept (own ++ (rest ++ mid)) back between → HandsBack own mid now between end
      → HandsBack came kept (rest ++ now) back end
  hands_next own rest mid before next = record {
    further = before.further ++ next.further;
    back = rw (before.back, append_assoc) at next.back;
    same = rw append_assoc (IsPermutation-trans _ _ _ before.same (IsPermutation-append_right before.further _ _
        (IsPermutation-trans _ _ _ (swapped own rest mid)
        (IsPermutation-trans _ _ _ (IsPermutation-append_right rest _ _ next.same) (swapped rest next.further _)))));
  }
