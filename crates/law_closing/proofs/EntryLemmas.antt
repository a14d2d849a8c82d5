-- The items of a caller as the entries of its calls, and their tickets.
use Rattle.law_closing.proofs.Names.{Item, some, Act, Outcome, Lost, Got, calls_in, fate_of, NamesItsCalls, got_of, items_of, tickets_from, tickets_of, entries_by, entries_from, get_elem?, ◌≡◌, ◌≢◌, ℕ, zero, suc, ◌+◌, List, [], ◌∷◌, map, refl, cond, eqb, ne_eqb, arith, got_from, plain_item}
use Rattle.std.proofs.lemmas.Grind.{common_steps}

module _ (i : ℕ) where
  -- the entries of a caller are its items, and so are their tickets
  items_as : (t : ℕ) (items : List (Item Act))
      → (entries_by i (map plain_item items) ≡ map (λ x. plain_item x.1) (items_of i t items))
      × (tickets_of i t (map plain_item items) ≡ map (λ x. (x.1.call, x.0)) (items_of i t items))
  items_as t [] = (refl, refl)
  items_as t (item ∷ items) = grind (arith, items_as (suc t) items)

  -- an item that a call got is the entry of this call
  got_as : (call : ℕ) (log : List Outcome)
      → ((j t : ℕ) (item : Item Act) → get_elem? log j ≡ some (Got t item) → (item.caller ≡ i) × (item.call ≡ call + j))
      → (map (λ x. plain_item x.1) (got_of log) ≡ entries_from i call (calls_in log))
      × (tickets_from call (map fate_of log) ≡ map (λ x. (x.1.call, x.0)) (got_of log))
  got_as call [] names = (refl, refl)
  got_as call (Lost g ∷ log) names =
      got_as (suc call) log (λ j t item at. let its = names (suc j) t item at in (its.0, omega (arith, its.1)))
  got_as call (Got t item ∷ log) names =
      let rest = got_as (suc call) log (λ j t item at. let its = names (suc j) t item at in (its.0, omega (arith, its.1))) in
      grind (arith, rest, names 0 t item refl)

  -- the entries of a caller are its accepted calls
  pub whole_as : (log : List Outcome) (items : List (Item Act)) → NamesItsCalls i log → got_of log ≡ items_of i 0 items
      → (entries_by i (map plain_item items) ≡ entries_from i 0 (calls_in log))
      × (tickets_from 0 (map fate_of log) ≡ tickets_of i 0 (map plain_item items))
  whole_as log items names accepted =
      grind (arith, items_as 0 items, accepted, got_as 0 log (λ j t item at. grind (arith, names j t item at)))

  -- who has none of the items got none
  pub no_items : (t : ℕ) (items : List (Item Act)) → ((j : ℕ) (item : Item Act) → get_elem? items j ≡ some item → i ≢ item.caller) → items_of i t items ≡ []
  no_items t [] other = refl
  no_items t (item ∷ items) other = rw (ne_eqb i item.caller (other 0 item refl)) (no_items (suc t) items (λ j. other (suc j)))

  -- an item that was taken is one of its caller's, under its ticket
  item_there : (f u t : ℕ) (items : List (Item Act)) (item : Item Act) → t ≡ f + u → item.caller ≡ i → get_elem? items u ≡ some item
      → (place : ℕ) × (get_elem? (items_of i f items) place ≡ some (t, item))
  item_there f zero t (x ∷ items) item is own at = (0, grind (arith, common_steps, is, own, at))
  item_there f (suc u) t (x ∷ items) item is own at =
      let rest = item_there (suc f) u t items item (omega arith) own at in
      (cond (eqb i x.caller) (suc rest.0) rest.0, grind (arith, common_steps, rest))
  item_there f u t _ item is own at = cc

  -- so a call of the caller got that ticket for it
  pub call_of_ticket : (log : List Outcome) (items : List (Item Act)) → got_of log ≡ items_of i 0 items
      → (t : ℕ) (item : Item Act) → item.caller ≡ i → get_elem? items t ≡ some item → (j : ℕ) × (get_elem? log j ≡ some (Got t item))
  call_of_ticket log items accepted t item own at =
      let there = item_there 0 t t items item (omega arith) own at in got_from log there.0 t item (rw accepted there.1)
