-- Slots that stand for moments and items stand for them with one more.
use Rattle.filter_aggregate.proofs.Names.{◌≡◌, ℕ, ◌<◌, ◌≤◌, false, List, [], ◌∷◌, length, map, filter, None, IsSome, sym, arith, All, slice_set, get_or-set_same, get_or-set_other, get_or-map, length-set, length-map, map-set, Qualified, Parts, event_at, plain_event, Item, is_of, item_at, told_by, Moment, closes, closing_of, closing_ticks, EndBy, Slot, fresh_slot, slot_at, HaveIntervals, is_due, slot_closed, after_closing, slot_with, after_arrival, slot_by, slots_by, slot_of, Stands, inl, inr, cases_eq, is_some, Event, nat_tests, closing_item, cases_lt, get_or_past}
use Rattle.chain_spec.proofs.CoverLemmas.{end_of_some}
use Rattle.filter_aggregate.proofs.SlotLemmas.{slot_at_by}
use Rattle.filter_aggregate.proofs.StepLemmas.{arrival_slot}

module _ (config : Parts) (moments : List Moment) (items : List Item) (slots : List (Slot (List ℕ))) where
  -- an item of an event that is not aggregated leaves the slots as they are
  pub stands_alone : (item : Item) → (event_at config item.event).aggregate ≡ None → Stands config moments items slots
      → Stands config moments (item ∷ items) slots
  stands_alone item alone stands =
      record { events = stands.events; each = λ k within. grind (arith, nat_tests, stands.each k within, alone) }

  -- and so does a moment that closes nothing
  pub stands_beside : (moment : Moment) → ((event : ℕ) → closing_of event moment ≡ None) → Stands config moments items slots
      → Stands config (moment ∷ moments) items slots
  stands_beside moment beside stands =
      record { events = stands.events; each = λ k within. rw (beside k) (stands.each k within) }

  -- one slot becomes what it is after one more, and the others are it already
  stands_set : (later : List Moment) (more : List Item) (event : ℕ) (slot : Slot (List ℕ)) → event < length slots
      → slot ≡ slot_of config later more event
      → ((k : ℕ) → (event ≡ k → ⊥) → slot_of config later more k ≡ slot_of config moments items k) → Stands config moments items slots
      → Stands config later more (slice_set slots event slot)
  stands_set later more event slot there own others stands = record {
    events = simp length-set stands.events;
    each = λ k within. elim (cases_eq event k) [
      | inl same ↦ rw (← same, get_or-set_same slots event slot (fresh_slot None) there) own
      | inr other ↦
          rw (get_or-set_other slots event k slot (fresh_slot None) (λ e. other (sym e)), others k other)
          (stands.each k (simp length-set at within))
    ];
  }

module _ {B : Type 0} (f : B → List ℕ) (config : Parts) where
  -- the slots of a configuration stand for no moments and no items
  pub stands_fresh : Stands config [] [] (slots_by f (map (λ event. fresh_slot event.aggregate) config.events))
  stands_fresh = record {
    events = simp length-map;
    each = λ k within.
        let inside : k < length config.events = simp length-map at within in
        let fresh = λ (event : Event). fresh_slot {C = B} event.aggregate in
        let own = get_or-map fresh config.events k (plain_event 0 0) (fresh_slot None) inside in
        grind (arith, slot_at_by f (map fresh config.events) k (simp length-map inside), own);
  }

-- slots that stand over bytes
module _ {B : Type 0} (f : B → List ℕ) (config : Parts) (moments : List Moment) (items : List Item) (slots : List (Slot B))
    (stands : Stands config moments items (slots_by f slots)) where
  slot_over : (event : ℕ) → event < length slots → slot_by f (slot_at slots event) ≡ slot_of config moments items event
  slot_over event there = rw (slot_at_by f slots event there) at (stands.each event (simp length-map there))

  -- a window is due exactly where a turn closes it
  pub due_closes : (tick event : ℕ) → is_due tick (slot_at slots event)
      ≡ is_some (closing_item (event_at config event).aggregate tick (closing_ticks event moments) (filter (is_of event) items))
  due_closes tick event = elim (cases_lt event (length slots)) [
    | inl there ↦ grind (arith, nat_tests, slot_over event there)
    | inr past ↦
        let none = get_or_past config.events event (plain_event 0 0) (omega (arith, stands.events, length-map slots (slot_by f), past)) in
        grind (arith, get_or_past slots event (fresh_slot None) past, none)
  ]

  -- a turn closes what is due
  pub stands_closing : (event tick : ℕ) (now : List (Slot B)) → event < length slots → now ≡ after_closing event tick slots
      → Stands config (closes tick event ∷ moments) items (slots_by f now)
  stands_closing event tick now there is =
      rw (is, map-set (slot_by f) slots event (slot_closed tick (slot_at slots event)))
      (stands_set config moments items (slots_by f slots) (closes tick event ∷ moments) items event _ (simp length-map there)
      (grind (arith, nat_tests, slot_over event there)) (λ k isnt. grind (arith, nat_tests, isnt)) stands)

  -- an item arrives
  pub stands_arriving : (tick : ℕ) (item : Qualified B) (now : List (Slot B)) → let event = item.event.0 in let slot = slot_at slots event in
      event < length slots → HaveIntervals slots → IsSome slot.setting → is_due tick slot ≡ false → item.count ≤ 65535
      → now ≡ after_arrival tick item slots → EndBy (λ item. item.tick) tick items → All (λ n. n ≤ tick) (closing_ticks event moments)
      → Stands config moments (item_at tick (told_by f item) ∷ items) (slots_by f now)
  stands_arriving tick item now there intervals aggregates not_due few is ends by =
      let event = item.event.0 in
      let slot = slot_at slots event in
      let x = item_at tick (told_by f item) in
      let own = arrival_slot (event_at config event).aggregate x (closing_ticks event moments) (filter (is_of event) items) (slot_by f slot)
      (slot_over event there) aggregates (intervals event (fresh_slot None) there) few
      (end_of_some (λ (item : Item). item.tick) (is_of event) tick items ends) by (grind (arith, not_due)) in
      rw (is, map-set (slot_by f) slots event (slot_with tick item slot))
      (stands_set config moments items (slots_by f slots) moments (x ∷ items) event _ (simp length-map there)
      (grind (arith, nat_tests, own)) (λ k other. grind (arith, nat_tests, other)) stands)
