-- Parcels, counted, where one slot changes.
use Rattle.filter_aggregate.proofs.Names.{◌≡◌, ℕ, suc, zero, ◌<◌, List, [], ◌∷◌, ◌++◌, length, Option, option_to_list, option_and_then, append_assoc, arith, slice_set, append-nil, Qualified, Slot, slot_at, held_in, item_due, slot_closed, after_closing, keeps_last, spare_of, slot_with, after_arrival}
use Rattle.std.specs.List.Sorted.{IsPermutation}
use Rattle.std.proofs.lemmas.List.Sorted.{IsPermutation-refl, IsPermutation-trans, IsPermutation-append_left, IsPermutation-append_right, IsPermutation-append_comm}
use Rattle.filter_aggregate.specs.Account.{Accounts, kept_in, all_kept}

module _ {B : Type 0} where
  -- two lists before a third change places
  pub swapped : (xs ys zs : List B) → IsPermutation (xs ++ (ys ++ zs)) (ys ++ (xs ++ zs))
  swapped xs ys zs =
      rw (← append_assoc xs ys zs, ← append_assoc ys xs zs) (IsPermutation-append_left zs _ _ (IsPermutation-append_comm xs ys))

  -- what is true of one slot is true of all
  pub account_set : (came handed : List B) (slots : List (Slot B)) (event : ℕ) (slot : Slot B) → event < length slots
      → Accounts came (kept_in (slot_at slots event)) handed (kept_in slot)
      → Accounts came (all_kept slots) handed (all_kept (slice_set slots event slot))
  account_set came handed [] event slot there same = absurd (omega arith)
  account_set came handed (one ∷ rest) zero slot there same =
      rw (← append_assoc came _ _, ← append_assoc handed _ _) (IsPermutation-append_left (all_kept rest) _ _ same)
  account_set came handed (one ∷ rest) (suc event) slot there same =
      IsPermutation-trans _ _ _ (swapped came (kept_in one) (all_kept rest)) (IsPermutation-trans _ _ _
      (IsPermutation-append_right (kept_in one) _ _ (account_set came handed rest event slot (omega arith) same))
      (swapped (kept_in one) handed _))

  -- ---- one slot

  -- the parcel of the item that a slot gives, if it gives one and that has a parcel
  abbrev pub given_in : Option (Qualified B) → List B
  given_in item = option_to_list (option_and_then (λ (i : Qualified B). i.context) item)

  -- ---- all slots

  -- a turn that closes what is due hands out the parcel of the item that it gives
  pub account_closing : (event tick : ℕ) (slots now : List (Slot B)) (item : Option (Qualified B)) → event < length slots
      → now ≡ after_closing event tick slots → item ≡ item_due tick (slot_at slots event)
      → Accounts [] (all_kept slots) (given_in item) (all_kept now)
  account_closing event tick slots now item there is given =
      let slot = slot_at slots event in
      rw (is, given) (account_set [] (given_in (item_due tick slot)) slots event (slot_closed tick slot) there
      (grind (arith, IsPermutation-refl, append-nil)))

  -- an item that arrives brings its parcel, and hands out the one that is not kept
  pub account_arriving : (tick : ℕ) (item : Qualified B) (slots now : List (Slot B)) (back : Option B) → item.event.0 < length slots
      → now ≡ after_arrival tick item slots
      → back ≡ spare_of (keeps_last (slot_at slots item.event.0).setting) (held_in (slot_at slots item.event.0)) item.context
      → Accounts (option_to_list item.context) (all_kept slots) (option_to_list back) (all_kept now)
  account_arriving tick item slots now back there is given =
      let event = item.event.0 in
      let slot = slot_at slots event in
      rw (is, given) (account_set (option_to_list item.context) _ slots event (slot_with tick item slot) there
      (grind (arith, IsPermutation-refl, IsPermutation-append_comm, append-nil)))
