-- The windows of the events that are aggregated close, and it is as if those of all events did.
use Rattle.event_chain.proofs.Names.{reached, ◌≡◌, ℕ, ◌+◌, ◌<◌, ◌≤◌, zero, suc, Bool, true, false, List, [], ◌∷◌, length, map, filter, None, is_some, refl, sym, ap, subst, ◌∙◌, arith, below_more, if◌then◌else◌, IsFalse, range_with_len, common_steps, length-map, set-get_or, Output, EventIndex, Parts, closes, with_all, fresh_slot, is_due, slot_at, Slot, Way, Knowing, Leads, Windowed, aggregating_in, is_aggregated, with_all-append, ◌↔◌, get_or, get_or_past, list_any, moments, slots_by, Turn, WindowsStand, nat_tests, stands_with_closing, InWindow, due_closes, stands_closing, NoneDue}
use Rattle.std.proofs.lemmas.List.Folds.{list_any_at, list_any_none}
use Rattle.std.proofs.lemmas.Map.Views.{any-filter_same}
use Rattle.std.proofs.lemmas.List.FromFn.{get_or-range_with_len, length-range_with_len, map-range_with_len_more}
use Rattle.std.proofs.lemmas.List.Sums.{count_by-le-length, length-filter}
use Rattle.event_chain.proofs.WayLemmas.{IsSilent, behind_silent, none_of}

-- ---- numbers that pass a test, one after another

-- P holds at the first of these that are left and pass, after which the others are left, or else at the end
abbrev pub Reached : (ℕ → Bool) → ℕ → (ℕ → Type 0) → List ℕ → Type 0
Reached test end P [] = P end
Reached test end P (k ∷ left) =
    (k < end) × P k × ((more : ℕ) × (k + 1 + more ≡ end) × (filter test (range_with_len (k + 1) more) ≡ left))

module _ {test : ℕ → Bool} {end : ℕ} (P : ℕ → Type 0) (skip : (n : ℕ) → n < end → test n ≡ false → P n → P (n + 1)) where
  -- from a number on
  pub reached_from : (now more : ℕ) → now + more ≡ end → P now → Reached test end P (filter test (range_with_len now more))
  reached_from now zero whole holds = subst P (omega (arith, whole)) holds
  reached_from now (suc more) whole holds =
      let others = filter test (range_with_len (now + 1) more) in
      let less : now < end = omega (arith, whole) in
      let after : now + 1 + more ≡ end = omega (arith, whole) in
      elim (test now) as (λ (b : Bool). test now ≡ b → Reached test end P (if b then now ∷ others else others)) [
        | true ↦ λ is. (less, holds, (more, after, refl))
        | false ↦ λ is. reached_from (now + 1) more after (skip now less is holds)
      ] refl

  -- one that is left passes
  pub reached_next : {k : ℕ} {left rest : List ℕ} (Q : ℕ → Type 0) → left ≡ k ∷ rest → Reached test end Q left
      → (k < end → Q k → P (k + 1)) → Reached test end P rest
  reached_next {k} Q is so_far step =
      let next = rw is at so_far in
      rw (← next.2.2) (reached_from (k + 1) next.2.0 next.2.1 (step next.0 next.1))

-- there are no more events that are aggregated than slots
pub aggregated_few : {B : Type 0} (slots : List (Slot B)) (events : List EventIndex) → map (λ event. event.0) events ≡ aggregating_in slots
    → length events ≤ length slots
aggregated_few slots events all =
    let few = count_by-le-length (is_aggregated slots) (range_with_len 0 (length slots)) in
    grind (arith, few, ap length all, length-filter, length-map, length-range_with_len)

-- ---- events that close

-- that of an event that is not aggregated is never due
not_due : {B : Type 0} (tick : ℕ) (slot : Slot B) → is_some slot.setting ≡ false → IsFalse (is_due tick slot)
not_due tick slot is = grind (arith, common_steps, is)

module _ {B W : Type 0} where
  -- it is as if so many events closed, and none of their windows is due
  pub record ClosedTo (held : B → List ℕ) (knows : Knowing W) (tick : ℕ) (old : Way B W) (before : Output) (new : Way B W)
      (after : Output) (n : ℕ) : Type 0 where
    pub behind : Leads held knows tick (λ config moments. with_all moments (map (closes tick) (range_with_len 0 n))) old new before after
    pub settled : (k : ℕ) → k < n → IsFalse (is_due tick (slot_at new.windows k))

  module _ {held : B → List ℕ} {knows : Knowing W} {tick : ℕ} {old mid : Way B W} {before between : Output} where
    -- one more closes
    pub closed_more : (n : ℕ) {new : Way B W} {after : Output} → Leads held knows tick (λ config moments. closes tick n ∷ moments) mid new between after
        → ((k : ℕ) → IsFalse (is_due tick (slot_at mid.windows k)) → IsFalse (is_due tick (slot_at new.windows k)))
        → IsFalse (is_due tick (slot_at new.windows n)) → ClosedTo held knows tick old before mid between n
        → ClosedTo held knows tick old before new after (n + 1)
    closed_more n {new} {after} closing stays own so_far = record {
      behind = λ config start moments behind.
          rw (map-range_with_len_more (closes tick) 0 n n (omega arith), with_all-append)
          (closing config start _ (so_far.behind config start moments behind));
      settled = below_more (λ k. IsFalse (is_due tick (slot_at new.windows k))) n (λ k less. stays k (so_far.settled k less)) own;
    }

    -- or is skipped: its closing is nothing
    pub closed_skip : IsSilent knows → Windowed tick old.windows mid.windows → (n : ℕ) → n < length old.windows → is_aggregated old.windows n ≡ false
        → ClosedTo held knows tick old before mid between n → ClosedTo held knows tick old before mid between (n + 1)
    closed_skip silent on n less passes =
        let slots = mid.windows in
        let early = not_due tick (slot_at slots n) (ap is_some (on.settings n) ∙ passes) in
        closed_more n (λ config start moments behind.
        let items = reached config InWindow moments in
        let none = none_of _ (sym (due_closes held config moments items slots behind.at.windows tick n) ∙ early) in
        behind_silent behind silent (closes tick n) (rw none refl) (λ e. grind (arith, nat_tests))
        (stands_with_closing config moments tick n mid.gate behind.at.gate)
        (stands_closing held config moments items slots behind.at.windows n tick slots (omega (arith, less, on.events))
        (rw early (sym (set-get_or slots n (fresh_slot None))))))
        (λ k settled. settled) early

-- ---- events whose windows are due

-- a test of events is one of their indexes
any_index : (p : ℕ → Bool) (events : List EventIndex)
    → list_any (λ event. p event.0) events ≡ list_any p (map (λ event. event.0) events)
any_index p [] = refl
any_index p (event ∷ events) = rw (any_index p events) refl

-- of the events that are aggregated none is due exactly where no window is
pub none_due : {B : Type 0} (held : B → List ℕ) (config : Parts) (turns : List Turn) (tick : ℕ) (slots : List (Slot B)) (events : List EventIndex)
    → WindowsStand config (moments config turns) (reached config InWindow (moments config turns)) (slots_by held slots) → map (λ event. event.0) events ≡ aggregating_in slots
    → (list_any (λ event. is_due tick (slot_at slots event.0)) events ≡ false) ↔ NoneDue config turns tick
none_due held config turns tick slots events stands is =
    let due = λ (k : ℕ). is_due tick (slot_at slots k) in
    let all = range_with_len 0 (length slots) in
    let asked : list_any (λ event. due event.0) events ≡ list_any due all =
    any_index due events ∙ rw is (any-filter_same due (is_aggregated slots) true (λ k is. grind (arith, is)) all) in
    let ms = moments config turns in
    let closing = λ (k : ℕ). due_closes held config ms (reached config InWindow ms) slots stands tick k in (
      λ none k.
          let past = get_or_past slots k (fresh_slot None) in
          let early : due k ≡ false = grind (arith, common_steps, past, list_any_at due all k 0, get_or-range_with_len, length-range_with_len, asked, none) in
          none_of _ (sym (closing k) ∙ early),
      λ nothing. asked ∙ list_any_none due all (λ k d less. closing (get_or all k d) ∙ ap is_some (nothing (get_or all k d))),
    )
