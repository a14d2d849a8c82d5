-- The filters and windows of one event over its whole lists, which are read off the endings of a history.
use Rattle.std.proofs.lemmas.Bool.{eqb-true}
use Rattle.chain_spec.proofs.Names.{among, ◌≡◌, ℕ, zero, suc, ◌+◌, ◌<◌, ◌≤◌, ◌==◌, ◌&&◌, ◌%◌, nat_le, nat_lt, not, Bool, true, false, List, [], ◌∷◌, ◌++◌, length, map, filter, Some, IfSome, is_some, if◌then◌else◌, refl, sym, ap, ◌∙◌, arith, inl, inr, cases_Bool, eq-eqb, nat_tests, AllByRecursion, range_with_len, length-map, Turn, Report, Act, Entry, Head, heads_of, Parts, event_at, internal_of, Aggregate, tick_of, every, reaching, closed_items, counted, Item, is_of, Moment, closes, comes, closings, moments, head_moment, act_moment, with_all, windows_of, EndBy, TellsWindows, number_at, since_given, verdict, AtNth, InWindow, AtThreshold, Fate, Seen, holds, seen_at, added, where_true, Ending, endings, ends_at, reaches, passes, by_window, items_where, closing_ticks, reached, arrivals, sampled, aggregated, thresholded}
use Rattle.chain_spec.proofs.ClosedLemmas.{tick_at, StandsBy, stands_later, stands_closing, stands_arriving, sizes_split}
use Rattle.chain_spec.proofs.PassLemmas.{agree_on, are_ways, reached_next}
use Rattle.chain_spec.proofs.StageLemmas.{all_keep, cases_Option, with_all-append}
use Rattle.chain_spec.proofs.StepLemmas.{IsWay, comes_holds, closes_holds, ending_holds}
use Rattle.chain_spec.proofs.CoverLemmas.{members_of_windows}

-- what counts for an event is among its own items
among_own : (event : ℕ) (items : List Item) → among event (map counted (filter (is_of event) items)) ≡ among event (map counted items)
among_own event [] = refl
among_own event (item ∷ items) = grind (arith, among_own event items)

-- an ending of an event that is aggregated, or is not: what a window gave goes on, and what comes to the windows joins one; or
-- what comes to the windows goes on, and none gives anything
record Goes (aggregates : Bool) (one : Ending) : Type 0 where
  on : reaches AtThreshold one ≡ (if aggregates then by_window one else reaches InWindow one)
  joins : ends_at InWindow one ≡ (aggregates && reaches InWindow one)
  given : by_window one ≡ (aggregates && by_window one)

-- without windows none joins one, and none is given by one or comes before such
unjoined : (past : List Ending) → AllByRecursion (Goes false) past
    → (filter (ends_at InWindow) past ≡ []) × (filter by_window past ≡ []) × (since_given past ≡ past)
unjoined [] go = (refl, refl, refl)
unjoined (one ∷ past) go =
    let rest = unjoined past go.1 in rw (go.0.joins, go.0.given) (rest.0, rest.1, ap (λ others. one ∷ others) rest.2)

-- of some of the items that came to a step, those go on that pass a test by the items before
abbrev AreBy : (Item → Bool) → (reached let_pass : Ending → Bool) → (List Item → Item → Bool) → List Ending → Type 0
AreBy some reached let_pass test past = filter some (items_where let_pass past)
    ≡ added (λ before item. where_true (test before item) item) (filter some (items_where reached past))

more_by : (some : Item → Bool) (reached let_pass : Ending → Bool) (test : List Item → Item → Bool) (one : Ending) (past : List Ending)
    → (some one.item ≡ true → let_pass one ≡ (reached one && not (not (test (filter some (items_where reached past)) one.item))))
    → AreBy some reached let_pass test past → AreBy some reached let_pass test (one ∷ past)
more_by some reached let_pass test one past is rest = grind (arith, is, rest)

module _ (config : Parts) (event : ℕ) where
  -- the endings of the event
  abbrev own : List Ending → List Ending
  own past = filter (λ one. is_of event one.item) past

  own_where : (test : Ending → Bool) (past : List Ending) → filter (is_of event) (items_where test past) ≡ items_where test (own past)
  own_where test [] = refl
  own_where test (one ∷ past) = grind (arith, own_where test past)

  -- with an ending more
  own_more : (Holds : List Ending → Type 0) (one : Ending) (past : List Ending) → Holds (own past)
      → (is_of event one.item ≡ true → Holds (one ∷ own past)) → Holds (own (one ∷ past))
  own_more Holds one past idle on = elim (cases_Bool (is_of event one.item)) [ inl is ↦ rw is (on is) | inr off ↦ rw off idle ]

  goes : (aggregates : Bool) → is_some (event_at config event).aggregate ≡ aggregates → (one : Ending) → IsWay config one
      → is_of event one.item ≡ true → Goes aggregates one
  goes aggregates same one is of = grind (arith, nat_tests, is, same, of)

  own_go : (past : List Ending) → AllByRecursion (IsWay config) past
      → AllByRecursion (Goes (is_some (event_at config event).aggregate)) (own past)
  own_go [] are = tt
  own_go (one ∷ past) are =
      own_more (AllByRecursion (Goes (is_some (event_at config event).aggregate))) one past (own_go past are.1) (λ of.
      (goes _ refl one are.0 of, own_go past are.1))

  -- ---- forward every nth, and the threshold

  -- what a step lets pass of the event's items, if it tests each by those that came to it before
  by_test : (step : Fate) (test : List Item → Item → Bool)
      → ((seen : Seen) (item : Item) → item.event ≡ event → holds config step seen item ≡ not (test (filter (is_of event) seen.reached) item))
      → (moments : List Moment) → AreBy (is_of event) (reaches step) (passes step) test (endings config moments)
  by_test step test says [] = refl
  by_test step test says (moment ∷ before) =
      let past = endings config before in
      let rest = by_test step test says before in
      ending_holds config before (AreBy (is_of event) (reaches step) (passes step) test) rest
      (λ one ends. more_by (is_of event) (reaches step) (passes step) test one past (λ is.
      rw (ends.let_pass step, says (seen_at before past step) one.item (eqb-true _ _ is)) refl) rest) moment

  pub sampled_every : (moments : List Moment) → sampled config event moments ≡ every (event_at config event).nth (arrivals config event moments)
  sampled_every moments = rw (reached_next config AtNth InWindow refl refl moments) (
      by_test AtNth (λ before item. (length before + 1) % (event_at config event).nth == 0) (λ seen item is. rw is refl) moments)

  pub thresholded_reaching : (moments : List Moment) → filter (is_of event) (thresholded config moments)
      ≡ reaching (event_at config event).threshold (filter (is_of event) (aggregated config moments))
  thresholded_reaching = by_test AtThreshold (λ before item. verdict (event_at config event).threshold (counted item) (map counted before))
      (λ seen item is. rw is (grind (arith, nat_tests, among_own event seen.reached)))

  -- ---- the windows of the event

  -- a turn that closes windows, event by event, closes the event's once, if it is among these
  closed_ticks : (tick n first : ℕ) (before : List Moment)
      → closing_ticks event (with_all before (map (closes tick) (range_with_len first n)))
      ≡ (if nat_le first event && nat_lt event (first + n) then tick ∷ [] else []) ++ closing_ticks event before
  closed_ticks tick zero first before = grind (arith, nat_tests)
  closed_ticks tick (suc n) first before = grind (arith, nat_tests, closed_ticks tick n (first + 1) (closes tick first ∷ before))

  module _ (setting : Aggregate) (aggregates : (event_at config event).aggregate ≡ Some setting) (some : 1 ≤ setting.interval)
      (there : event < length config.events) where
    -- it stands so at a tick by these ticks of turns and these endings of the event
    abbrev StandsOn : ℕ → List ℕ → List Ending → Type 0
    StandsOn t ticks past = StandsBy setting t ticks (windows_of tick_at setting.interval (items_where (reaches InWindow) past))
        (items_where (reaches AtThreshold) past) (number_at InWindow (since_given past))

    -- it stands so after moments
    abbrev Stands : ℕ → List Moment → Type 0
    Stands t before = StandsOn t (closing_ticks event before) (own (endings config before))

    closing : (tick other : ℕ) (before : List Moment) → Stands tick before → Stands tick (closes tick other ∷ before)
    closing tick other before h =
        let past = endings config before in
        let ticks = closing_ticks event before in
        elim (cases_Bool (other == event)) [
          | inl same ↦
              let closed = stands_closing setting tick ticks (windows_of tick_at setting.interval (items_where (reaches InWindow) (own past))) _ _ h in
              rw (eqb-true _ _ same, eq-eqb event event refl) (closes_holds config before (λ past. StandsOn tick (tick ∷ ticks) (own past)) tick event
              (λ none. rw (rw (aggregates, own_where (reaches InWindow) past) at none) at closed)
              (λ one ends is of_event given.
              let goes = goes true (ap is_some aggregates) one ends.way (eq-eqb _ _ of_event) in
              let none : reaches InWindow one ≡ false = grind (arith, nat_tests, given) in
              rw (eq-eqb _ _ of_event, given, goes.on, given, none) (rw (rw (aggregates, own_where (reaches InWindow) past) at is) at closed)))
          | inr differ ↦
              rw differ (closes_holds config before (λ past. StandsOn tick ticks (own past)) tick other (λ none. h)
              (λ one ends is of_other given. own_more (StandsOn tick ticks) one past h
              (λ of. absurd (cc (rw of_other at of, differ)))))
        ]

    -- ---- the moments of a turn

    -- it stands so, and this turn has closed the event's window
    abbrev Inside : ℕ → List ℕ → List Moment → Type 0
    Inside tick rest before = StandsOn tick (tick ∷ rest) (own (endings config before)) × (closing_ticks event before ≡ tick ∷ rest)

    comes_inside : (tick : ℕ) (rest : List ℕ) (item : Item) (before : List Moment) → item.tick ≡ tick → Inside tick rest before
        → Inside tick rest (comes item ∷ before)
    comes_inside tick rest item before at h = (
      comes_holds config before (λ past. StandsOn tick (tick ∷ rest) (own past)) item (λ one ends same came.
          own_more (StandsOn tick (tick ∷ rest)) one (endings config before) h.0 (λ of.
          let goes = goes true (ap is_some aggregates) one ends.way of in
          elim (cases_Bool (reaches InWindow one)) [
            | inl is ↦ rw (came, goes.on, goes.joins, came, is) (stands_arriving setting one.item tick rest _ _ _ some (ap (λ c. c.tick) same ∙ at) h.0)
            | inr none ↦ rw (came, goes.on, goes.joins, came, none) h.0
          ])),
      h.1,
    )

    acts_inside : (tick : ℕ) (rest : List ℕ) (act : Act (List ℕ)) (before : List Moment) → Inside tick rest before
        → Inside tick rest (act_moment tick act ∷ before)
    acts_inside tick rest (Report event count stamp context) before h = comes_inside tick rest _ before refl h
    acts_inside tick rest _ before h = h

    -- ---- turns

    turns_stand : (turns : List Turn) (t : ℕ) → EndBy tick_of t turns → StandsOn t (map tick_of turns) (own (endings config (moments config turns)))
        × (closing_ticks event (moments config turns) ≡ map tick_of turns)
    turns_stand [] t by = grind arith
    turns_stand (turn ∷ before) t by =
        let tick = tick_of turn in
        let ms = moments config before in
        let rest = map tick_of before in
        let old = turns_stand before tick by.1 in
        let closed = all_keep (Stands tick) (closes tick) (closing tick) (range_with_len 0 (length config.events)) ms (rw old.1 old.0) in
        let once : closing_ticks event (with_all ms (closings config tick)) ≡ tick ∷ rest =
        grind (arith, nat_tests, there, closed_ticks tick (length config.events) 0 ms, old.1) in
        let headed = all_keep (Inside tick rest) (head_moment tick)
        (λ (head : Head) (ms : List Moment) (h : Inside tick rest ms). comes_inside tick rest _ ms refl h)
        (heads_of (internal_of config) turn.head) (with_all ms (closings config tick)) (rw once at closed, once) in
        let now = all_keep (Inside tick rest) (λ (entry : Entry (List ℕ)). act_moment tick entry.act)
        (λ (entry : Entry (List ℕ)) (ms : List Moment) (h : Inside tick rest ms). acts_inside tick rest entry.act ms h)
        turn.entries _ headed in
        rw (with_all-append, with_all-append) (stands_later setting tick t _ _ _ _ by.0 now.0, now.1)

  -- ---- all of it

  pub aggregated_closed : (turns : List Turn) (tick : ℕ) → event < length config.events
      → IfSome (event_at config event).aggregate (λ setting. 1 ≤ setting.interval) → EndBy tick_of tick turns
      → filter (is_of event) (aggregated config (moments config turns))
      ≡ closed_items (event_at config event).aggregate (map tick_of turns) (sampled config event (moments config turns))
  aggregated_closed turns tick there some by =
      let past = endings config (moments config turns) in
      let go = own_go past (are_ways config (moments config turns)) in
      rw (own_where (reaches AtThreshold) past, own_where (reaches InWindow) past) (elim (cases_Option (event_at config event).aggregate) [
        | inl none ↦ rw none (ap (map (λ one. one.item)) (agree_on (Goes false) (reaches AtThreshold) (reaches InWindow) (λ one goes. goes.on) (own past) (rw none at go)))
        | inr is ↦ rw is.1 (turns_stand is.0 is.1 (rw is.1 at some) there turns tick by).0.same
      ])

  pub windows_told : (turns : List Turn) (tick : ℕ) → event < length config.events
      → IfSome (event_at config event).aggregate (λ setting. 1 ≤ setting.interval) → EndBy tick_of tick turns
      → TellsWindows config event (moments config turns)
  windows_told turns tick there some by =
      let past = endings config (moments config turns) in
      let go = own_go past (are_ways config (moments config turns)) in
      elim (cases_Option (event_at config event).aggregate) [
        | inl none ↦
            let told = unjoined (own past) (rw none at go) in
            record { closed = rw (none, told.1) refl; joined = rw (none, told.2, told.0) refl; waiting = rw (none, told.2, told.0) refl }
        | inr is ↦
            let stands = turns_stand is.0 is.1 (rw is.1 at some) there turns tick by in
            let sizes = simp (length-map, members_of_windows tick_at is.0.interval) at (sizes_split is.0 tick _ _ _ _ stands.0) in
            let same = own_where (reaches InWindow) past in
            let all = rw is.1 at go in
            record {
              closed = rw (is.1, stands.1, same, agree_on (Goes true) by_window (reaches AtThreshold) (λ one goes. sym goes.on) (own past) all) sizes.0;
              joined = rw (is.1, stands.1, same, agree_on (Goes true) (ends_at InWindow) (reaches InWindow) (λ one goes. goes.joins) (own past) all) sizes.1;
              waiting = rw (is.1, stands.1, same) stands.0.waits;
            }
      ]

-- the filters of one event over its whole lists, and its windows
pub ruleset event_laws = (sampled_every, aggregated_closed, thresholded_reaching)
