-- A quiet turn left out: the moments with it and those without it have the same endings, and tell the same.
use Rattle.std.specs.Prelude.{⊤}
use Rattle.std.proofs.Math.Path.{fun_ext}
use Rattle.std.proofs.lemmas.Bool.{eqb-true}
use Rattle.chain_spec.proofs.Names.{◌≡◌, ℕ, ◌+◌, ◌<◌, ◌≤◌, ◌==◌, nat_le, Bool, List, [], ◌∷◌, ◌++◌, length, map, filter, Some, None, option_map, option_to_list, list_any, refl, sym, ap, ◌∙◌, ◌↔◌, arith, inl, inr, cases_Bool, nat_tests, append-nil, range_with_len, Turn, Entry, Act, Report, Head, heads_of, Parts, event_at, internal_of, Aggregate, tick_of, Item, is_of, Moment, closes, comes, closings, turn_moments, moments, head_moment, act_moment, with_all, mode_at, state_at, item_in, Window, EndBy, windows_of, with_item, newest_where, closing_ticks, Fate, AtMode, AtBlock, InWindow, AtThreshold, steps_from, first_that, holds, Ending, ended, endings, ending_after, given, first_under, reaches, items_where, seen_at, handed_on, held_count, IsCausal}
use Rattle.chain_spec.specs.Quiet.{HaveIntervals, IsQuiet, TellTheSame}
use Rattle.chain_spec.proofs.ClosedLemmas.{tick_at, stays, closed_at}
use Rattle.chain_spec.proofs.StageLemmas.{all_keep, cases_Option, with_all-append}

-- ---- the open window of an event, by the ticks at which turns closed what was due

module _ (setting : Aggregate) (quiet : ℕ) where
  -- by these ticks and by others the same window is open, and so is one that ends after the quiet tick
  record AreOpen (ticks others : List ℕ) (ws : List (Window Item)) : Type 0 where
    now : newest_where (stays setting ticks) ws ≡ newest_where (stays setting others) ws
    later : (end : ℕ) → quiet < end → list_any (λ n. nat_le end n) ticks ≡ list_any (λ n. nat_le end n) others

  -- with a turn more that closes
  close_both : (tick : ℕ) (a b : List ℕ) (ws : List (Window Item)) → quiet ≤ tick → AreOpen a b ws → AreOpen (tick ∷ a) (tick ∷ b) ws
  close_both tick a b ws from h = grind (arith, h)

  -- with the quiet one, which closes nothing
  close_none : (a b : List ℕ) (ws : List (Window Item)) → closed_at setting quiet b ws ≡ None → AreOpen a b ws → AreOpen (quiet ∷ a) b ws
  close_none a b ws none h = grind (arith, nat_tests, none, h)

  -- with an item more
  join_both : (x : Item) (a b : List ℕ) (ws : List (Window Item)) → 1 ≤ setting.interval → quiet ≤ x.tick
      → AreOpen a b ws → AreOpen a b (with_item tick_at setting.interval x ws)
  join_both x a b ws some from h = grind (arith, h, h.later (x.tick + setting.interval))

  -- with an ending more
  ending_joins : (event : ℕ) (a b : List ℕ) (one : Ending) (past : List Ending) → 1 ≤ setting.interval → quiet ≤ one.item.tick
      → AreOpen a b (windows_of tick_at setting.interval (filter (is_of event) (items_where (reaches InWindow) past)))
      → AreOpen a b (windows_of tick_at setting.interval (filter (is_of event) (items_where (reaches InWindow) (one ∷ past))))
  ending_joins event a b one past some from h =
      grind (arith, h, join_both one.item a b (windows_of tick_at setting.interval (filter (is_of event) (items_where (reaches InWindow) past))) some from h)

-- ---- moments

-- a window that closes gives nothing to windows
closing_joins : (config : Parts) (tick event : ℕ) (before : List Moment)
    → items_where (reaches InWindow) (endings config (closes tick event ∷ before)) ≡ items_where (reaches InWindow) (endings config before)
closing_joins config tick event before = elim (cases_Option (given config before (endings config before) tick event))
    [ inl none ↦ rw none refl | inr is ↦ rw is.1 refl ]

-- the moment is no earlier than a tick
abbrev IsFrom : ℕ → Moment → Type 0
IsFrom quiet (closes tick event) = quiet ≤ tick
IsFrom quiet (comes item) = quiet ≤ item.tick
IsFrom quiet _ = ⊤

module _ (config : Parts) (quiet : ℕ) where
  -- of an event, if it is aggregated, the same window is open after these moments
  abbrev AreOpenOf : ℕ → List Moment → List Moment → Type 0
  AreOpenOf event ms others = (setting : Aggregate) → (event_at config event).aggregate ≡ Some setting → AreOpen setting quiet
      (closing_ticks event ms) (closing_ticks event others)
      (windows_of tick_at setting.interval (filter (is_of event) (items_where (reaches InWindow) (endings config others))))

  -- these moments, with what turns closed at the quiet tick, are like others without
  record AreAlike (ms others : List Moment) : Type 0 where
    mode : (event : ℕ) → mode_at config event ms ≡ mode_at config event others
    state : state_at config ms ≡ state_at config others
    opens : (event : ℕ) → AreOpenOf event ms others
    endings : endings config ms ≡ endings config others

  module _ (ms others : List Moment) (h : AreAlike ms others) where
    -- what ended
    abbrev past : List Ending
    past = endings config others

    same_holds : (item : Item) (step : Fate) → holds config step (seen_at ms past step) item ≡ holds config step (seen_at others past step) item
    same_holds item AtMode = rw (h.mode item.event) refl
    same_holds item AtBlock = rw h.state refl
    same_holds item _ = refl

    same_ended : (first : Fate) (item : Item) → ended config ms past first item ≡ ended config others past first item
    same_ended first item =
        ap (λ (test : Fate → Bool). let one : Ending = record { item = item; first = first; fate = first_that test (steps_from first) } in one)
        (fun_ext (same_holds item))

    same_given : (tick event : ℕ) → given config ms past tick event ≡ given config others past tick event
    same_given tick event = elim (cases_Option (event_at config event).aggregate)
        [ inl none ↦ rw none refl | inr is ↦ rw (is.1, (h.opens event is.0 is.1).now) refl ]

    same_ending : (m : Moment) → ending_after config ms past m ≡ ending_after config others past m
    same_ending (closes tick event) =
        rw (same_given tick event) (ap (λ f. option_map f (given config others past tick event)) (fun_ext (same_ended AtThreshold)))
    same_ending (comes item) = rw (h.mode item.event) (ap Some (same_ended _ _))
    same_ending _ = refl

    more_endings : (m : Moment) → endings config (m ∷ ms) ≡ endings config (m ∷ others)
    more_endings m = rw h.endings (ap (λ told. option_to_list told ++ past) (same_ending m))

    more_opens : HaveIntervals config → (m : Moment) → IsFrom quiet m → (event : ℕ) → AreOpenOf event (m ∷ ms) (m ∷ others)
    more_opens some (closes tick other) from event setting is =
        rw (closing_joins config tick other others) (elim (cases_Bool (other == event)) [
          | inl same ↦ rw same (close_both setting quiet tick _ _ _ from (h.opens event setting is))
          | inr differ ↦ rw differ (h.opens event setting is)
        ])
    more_opens some (comes item) from event setting is =
        let mode = mode_at config item.event others in
        ending_joins setting quiet event _ _ (ended config others past (first_under mode) (item_in mode item)) past
        (rw is at (some event)) from (h.opens event setting is)
    more_opens some _ from event setting is = h.opens event setting is

    -- with a moment more they are alike
    both : HaveIntervals config → (m : Moment) → IsFrom quiet m → AreAlike (m ∷ ms) (m ∷ others)
    both some m from = grind (arith, h.mode, h.state, more_opens some m from, more_endings m)

    -- and with one at which a turn closes nothing
    none_closes : (event : ℕ) → given config others (endings config others) quiet event ≡ None → AreAlike (closes quiet event ∷ ms) others
    none_closes event none =
        let opens : (other : ℕ) → AreOpenOf other (closes quiet event ∷ ms) others = λ other setting is.
        elim (cases_Bool (event == other)) [
          | inl same ↦ rw same (close_none setting quiet _ _ _ (rw (eqb-true _ _ same, is) at none) (h.opens other setting is))
          | inr differ ↦ rw differ (h.opens other setting is)
        ] in
        record { mode = h.mode; state = h.state; opens = opens; endings = rw (h.endings, same_given quiet event, none) refl }

  -- with moments more
  all_both : HaveIntervals config → {B : Type 0} (f : B → Moment) → ((y : B) → IsFrom quiet (f y))
      → (more : List B) (ms others : List Moment) → AreAlike ms others → AreAlike (with_all ms (map f more)) (with_all others (map f more))
  all_both some f from [] ms others h = h
  all_both some f from (y ∷ more) ms others h = all_both some f from more _ _ (both ms others h some (f y) (from y))

  act_from : (tick : ℕ) (act : Act (List ℕ)) → quiet ≤ tick → IsFrom quiet (act_moment tick act)
  act_from tick (Report event count stamp context) from = from
  act_from tick _ from = tt

-- ---- turns

module _ (config : Parts) (some : HaveIntervals config) (before : List Turn) (turn : Turn) (quiet : IsQuiet config before turn) where
  -- the turns with the quiet one
  abbrev whole : List Turn → List Turn
  whole after = after ++ turn ∷ before

  alike : (after : List Turn) (tick : ℕ) → EndBy tick_of tick (whole after)
      → (tick_of turn ≤ tick) × AreAlike config (tick_of turn) (moments config (whole after)) (moments config (after ++ before))
  alike [] tick by =
      let ms = moments config before in
      let now = tick_of turn in
      let alone : turn_moments config turn ≡ closings config now =
      grind (arith, quiet, append-nil) in (
        by.0,
        rw alone (all_keep (λ xs. AreAlike config now xs ms) (closes now)
            (λ event xs h. none_closes config now xs ms h event (quiet.windows event)) (range_with_len 0 (length config.events)) ms (grind arith)),
      )
  alike (x ∷ after) tick by =
      let at = tick_of x in
      let h = alike after at by.1 in
      let from = h.0 in (
        omega (arith, by.0, h.0),
        simp with_all-append (
            all_both config (tick_of turn) some (λ (entry : Entry (List ℕ)). act_moment at entry.act)
            (λ entry. act_from config (tick_of turn) at entry.act from) x.entries _ _ (
            all_both config (tick_of turn) some (head_moment at) (λ (head : Head). from) (heads_of (internal_of config) x.head) _ _ (
            all_both config (tick_of turn) some (closes at) (λ event. from) (range_with_len 0 (length config.events)) _ _ h.1))),
      )

  pub quiet_same : (after : List Turn) (tick : ℕ) → EndBy tick_of tick (whole after) → TellTheSame config (whole after) (after ++ before)
  quiet_same after tick by =
      let same = (alike after tick by).1.endings in
      record { qualified = rw same refl; messages = rw same refl; memory = rw same refl; endings = same; accounts = λ event. rw same refl }

  same_held : (after : List Turn) (tick : ℕ) → EndBy tick_of tick (whole after) → held_count config (whole after) ≡ held_count config (after ++ before)
  same_held after tick by = rw (quiet_same after tick by).endings refl

  pub quiet_handed : (after : List Turn) (tick : ℕ) → EndBy tick_of tick (whole after) → handed_on config before ≡ 0
      → handed_on config (whole after) ≡ handed_on config (after ++ before)
  quiet_handed [] tick by none = omega (arith, same_held [] tick by, none)
  quiet_handed (x ∷ after) tick by none = omega (arith, same_held (x ∷ after) tick by, same_held after (tick_of x) by.1)

  pub quiet_causal : (after : List Turn) (tick : ℕ) → EndBy tick_of tick (whole after)
      → IsCausal config (whole after) ↔ ((handed_on config before ≡ 0) × IsCausal config (after ++ before))
  quiet_causal [] tick by = (λ c. (sym c.0 ∙ quiet.limited, c.1), λ c. (quiet.limited ∙ sym c.0, c.1))
  quiet_causal (x ∷ after) tick by =
      let rest = quiet_causal after (tick_of x) by.1 in
      let same = quiet_handed after (tick_of x) by.1 in
      (λ c. let more = rest.0 c.1 in (more.0, (c.0 ∙ same more.0, more.1)), λ c. (c.1.0 ∙ sym (same c.0), rest.1 (c.0, c.1.1)))
