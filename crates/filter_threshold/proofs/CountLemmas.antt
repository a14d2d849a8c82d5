-- Thresholds with an item more.
use Rattle.std.proofs.Common.{◌≡◌, ◌≤◌, ◌<◌, ◌==◌, ℕ, min, set, nat_le, List, [], ◌∷◌, Option, Some, None, length, refl, sym, ap, ◌∙◌, subst, arith, eq-eqb, ne_eqb, inl, inr}
use Rattle.std.proofs.lemmas.Bool.{cases_eq}
use Rattle.std.proofs.lemmas.Bool.Decides.{nat_tests}
use Rattle.std.proofs.lemmas.List.{get_or-set_same, get_or-set_other, length-set}
use Rattle.std.proofs.lemmas.List.Sums.{sum_by-cons}
use Rattle.ids_config.specs.Parts.{Parts, event_at}
use Rattle.ids_config.specs.declared.parts.Window.{Window as Setting}
use Rattle.chain_spec.specs.{Occurrence, among, newest_sum, verdict, Window, EndBy, windows_of, sum_of}
use Rattle.chain_spec.proofs.CoverLemmas.{end_of_some, with_newest, windows_with}
use Rattle.filter_threshold.specs.declared.threshold.Counted.{Counted}
use Rattle.filter_threshold.specs.declared.threshold.Threshold.{Threshold}
use Rattle.filter_threshold.specs.Counting.{newest_counted, CountsAny, Stands}
use Rattle.filter_threshold.specs.Slots.{counted_with, slot_at, passes, after_item, after_arrival}

-- ---- windows of one event

-- the newest window with an item more, as it is kept
newest_with : (interval : ℕ) (x : Occurrence) (ws : List (Window Occurrence))
    → newest_counted (with_newest (λ one. one.tick) interval x ws) ≡ Some (counted_with interval x.tick x.count (newest_counted ws))
newest_with interval x [] = grind arith
newest_with interval x (w ∷ older) = grind (arith, sum_by-cons (λ (one : Occurrence). one.count) x w.more)

-- a number of at most 65,535 is reached by a sum exactly where the sum that stops there reaches it
reached_by_sum : (number : ℕ) (c : Counted) (ws : List (Window Occurrence)) → number ≤ 65535
    → newest_counted ws ≡ Some c → nat_le number c.sum ≡ nat_le number (newest_sum (λ one. one.count) ws)
reached_by_sum number c [] le is = cc
reached_by_sum number c (w ∷ older) le is =
    let sum_is : c.sum ≡ min (sum_of (λ one. one.count) w) 65535 = cc in grind (arith, nat_tests)

module _ (item : Occurrence) (items : List Occurrence) (by : EndBy (λ one. one.tick) item.tick items) where
  -- the event's window with the item, as it is kept
  newest_of_own : (interval : ℕ) → newest_counted (windows_of (λ one. one.tick) interval (item ∷ among item.event items))
      ≡ Some (counted_with interval item.tick item.count (newest_counted (windows_of (λ one. one.tick) interval (among item.event items))))
  newest_of_own interval =
      let own = among item.event items in
      let own_by = end_of_some (λ one. one.tick) (λ one. one.event == item.event) item.tick items by in
      ap newest_counted (windows_with (λ one. one.tick) interval item own own_by)
      ∙ newest_with interval item (windows_of (λ one. one.tick) interval own)

  -- the event's slot answers by the verdict, and counts with the item
  own_slot : (setting : Option Setting) (slot : Option Threshold) → CountsAny setting (among item.event items) slot
      → (passes item.tick item.count slot ≡ verdict setting item items)
      × CountsAny setting (item ∷ among item.event items) (after_item item.tick item.count slot)
  own_slot (Some setting) (Some threshold) counts =
      let newest = newest_of_own setting.interval in
      rw (counts.setting_is, counts.window)
      (reached_by_sum setting.number _ _ counts.number newest, record { setting_is = refl; number = counts.number; window = sym newest })
  own_slot None None counts = (refl, tt)
  own_slot setting slot counts = absurd counts

  -- what is answered to an item is the verdict, and the slots stand for the items with this one
  pub arrives : (config : Parts) (slots : List (Option Threshold)) → item.event < length slots → Stands config items slots
      → (passes item.tick item.count (slot_at slots item.event) ≡ verdict (event_at config item.event).threshold item items)
      × Stands config (item ∷ items) (after_arrival item.event item.tick item.count slots)
  arrives config slots exists stands =
      let now = after_item item.tick item.count (slot_at slots item.event) in
      let own = own_slot (event_at config item.event).threshold (slot_at slots item.event) (stands.each item.event) in (
        own.0,
        record {
          events = length-set slots item.event now ∙ stands.events;
          each = λ k. elim (cases_eq item.event k) [
            | inl is ↦ subst (λ j. CountsAny (event_at config j).threshold (among j (item ∷ items)) (slot_at (set slots item.event now) j)) is
                (rw (eq-eqb item.event item.event refl, get_or-set_same slots item.event now None exists) own.1)
            | inr other ↦ rw (ne_eqb item.event k other, get_or-set_other slots item.event k now None (λ same. other (sym same))) (stands.each k)
          ];
        },
      )
