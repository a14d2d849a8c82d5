-- The steps of an item's way: it ends at the first that holds it.
use Rattle.std.specs.Prelude.{get_or}
use Rattle.chain_spec.proofs.Names.{◌≡◌, ℕ, ◌+◌, ◌≤◌, ◌==◌, nat_le, nat_lt, ◌&&◌, Bool, true, false, not, List, ◌∷◌, Some, None, is_some, if◌then◌else◌, refl, arith, inl, inr, cases_Bool, nat_tests, Parts, event_at, Item, counted, Moment, closes, comes, mode_at, item_in, is_bypassing, Fate, AtMode, InWindow, AtThreshold, AtSend, Sent, all_steps, place_of, begins, steps_from, first_that, IsFirstThat, holds, Ending, ended, endings, fate_from, seen_at, reaches, passes, by_window, items_where, given, closing_ticks}
use Rattle.chain_spec.proofs.ClosedLemmas.{closing_is}
use Rattle.chain_spec.proofs.StageLemmas.{cases_Option}

-- ---- steps

-- the step after a step
abbrev pub next : Fate → Fate
next step = get_or all_steps (place_of step + 1) Sent

-- an item ends at a step that holds it, or else at one of the next
pub fate_step : (config : Parts) (before : List Moment) (past : List Ending) (step : Fate) (item : Item) → fate_from config before past step item
    ≡ (if holds config step (seen_at before past step) item then step else fate_from config before past (next step) item)
fate_step config before past Sent item = refl
fate_step config before past _ item = refl

-- the first step that passes a test passes it, and no step before it does
first_held : (test : Fate → Bool) → test Sent ≡ true → (first : Fate) → IsFirstThat test first (first_that test (steps_from first))
first_held test last AtMode = grind (arith, nat_tests, last)
first_held test last _ = grind (arith, nat_tests, last)

-- what comes to a step passes it, if it does not hold it
passes_that : (test : Fate → Bool) (first fate step : Fate) → IsFirstThat test first fate
    → (nat_le (place_of first) (place_of step) && nat_lt (place_of step) (place_of fate))
    ≡ (nat_le (place_of first) (place_of step) && nat_le (place_of step) (place_of fate) && not (test step))
passes_that test first fate step h = grind (arith, nat_tests, h.passes, h.before step)

-- the fate of an item is a step that holds it, and no step of its way before does
pub fate_held : (config : Parts) (before : List Moment) (past : List Ending) (first : Fate) (item : Item)
    → IsFirstThat (λ step. holds config step (seen_at before past step) item) first (fate_from config before past first item)
fate_held config before past first item = first_held (λ step. holds config step (seen_at before past step) item) refl first

-- ---- endings

-- a way begins at a step where ways begin, and ends there or later; and the windows hold it exactly if its event is
-- aggregated, as it is if a window gave it
pub record IsWay (config : Parts) (one : Ending) : Type 0 where
  pub begun : begins one.first ≡ true
  pub from : place_of one.first ≤ place_of one.fate
  pub joins : passes InWindow one ≡ (reaches InWindow one && not (is_some (event_at config one.item.event).aggregate))
  pub given : by_window one ≡ true → is_some (event_at config one.item.event).aggregate ≡ true

module _ (config : Parts) (before : List Moment) where
  -- what ended at these moments
  abbrev pub past_of : List Ending
  past_of = endings config before

  -- a step holds an item after these moments
  abbrev pub holds_after : Item → Fate → Bool
  holds_after item step = holds config step (seen_at before past_of step) item

  -- so ends the way of an item at a moment after these: it passes each step that it comes to and that does not hold it
  pub record Ends (one : Ending) : Type 0 where
    pub way : IsWay config one
    pub let_pass : (step : Fate) → passes step one ≡ (reaches step one && not (holds_after one.item step))

  ended_so : (first : Fate) (item : Item) → begins first ≡ true
      → ((place_of first == place_of AtThreshold) ≡ true → is_some (event_at config item.event).aggregate ≡ true)
      → Ends (ended config before past_of first item)
  ended_so first item begun given =
      let h = fate_held config before past_of first item in
      let let_pass = λ (step : Fate). passes_that (holds_after item) first _ step h in
      record { way = record { begun = begun; from = h.from; joins = let_pass InWindow; given = given }; let_pass = let_pass }

  -- what holds with such an ending more holds once an item comes
  pub comes_holds : (Holds : List Ending → Type 0) (item : Item)
      → ((one : Ending) → Ends one → counted one.item ≡ counted item → by_window one ≡ false → Holds (one ∷ past_of))
      → Holds (endings config (comes item ∷ before))
  comes_holds Holds item on =
      let mode = mode_at config item.event before in
      let kept = item_in mode item in
      let more = λ (first : Fate) (begun : begins first ≡ true) (apart : (place_of first == place_of AtThreshold) ≡ false).
      on (ended config before past_of first kept) (ended_so first kept begun (λ given. absurd (cc (given, apart)))) refl apart in
      elim (cases_Bool (is_bypassing mode)) [ inl is ↦ rw is (more AtSend refl refl) | inr none ↦ rw none (more AtMode refl refl) ]

  -- and once a turn closes what is due of an event, if it does without one, too
  pub closes_holds : (Holds : List Ending → Type 0) (tick event : ℕ) → (given config before past_of tick event ≡ None → Holds past_of)
      → ((one : Ending) → Ends one → given config before past_of tick event ≡ Some one.item → one.item.event ≡ event → by_window one ≡ true
      → Holds (one ∷ past_of)) → Holds (endings config (closes tick event ∷ before))
  closes_holds Holds tick event idle on = elim (cases_Option (given config before past_of tick event)) [
    | inl none ↦ rw none (idle none)
    | inr is ↦
        let own = closing_is (event_at config event).aggregate event tick (closing_ticks event before) (items_where (reaches InWindow) past_of) is.0 is.1 in
        let ends = ended_so AtThreshold is.0 refl (λ given. rw own.0 own.1) in
        rw is.1 (on (ended config before past_of AtThreshold is.0) ends is.1 own.0 refl)
  ]

  -- so what holds with no ending more, and with each, holds with a moment more
  pub ending_holds : (Holds : List Ending → Type 0) → Holds past_of → ((one : Ending) → Ends one → Holds (one ∷ past_of))
      → (moment : Moment) → Holds (endings config (moment ∷ before))
  ending_holds Holds idle on (closes tick event) = closes_holds Holds tick event (λ none. idle) (λ one ends is own given. on one ends)
  ending_holds Holds idle on (comes item) = comes_holds Holds item (λ one ends same came. on one ends)
  ending_holds Holds idle on _ = idle
