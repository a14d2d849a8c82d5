-- What a fitting journal tells can be kept: the items of its endings, whose ticks do not fall, and the records of them.
use Rattle.memory_image.proofs.ImageLemmas.{◌≡◌, ℕ, suc, ◌^◌, ◌≤◌, true, List, [], ◌∷◌, ◌++◌, length, map, take, reverse, flat_map, Option, option_to_list, option_map, refl, arith, append_assoc, AllByRecursion, Parts, AreKeepable, range_with_len, get_or_default, map-append, AreBytes, ◌≢◌, ◌<◌, filter, get_or, if◌then◌else◌, eq-eqb, AllPairs, All-permutation, IsPermutation-reverse, event_at, All-from_recursion, filter_passes, Row, list_any_at, begun, get_or-reverse, length-map, length-reverse, length-take, sum_by-cons, Bool, Some, None, IfSome, ⊤, nat_tests, IsKeepable, common_steps, ◌-◌, index_of, is_within, IsValid, IsEvent}
use mathlib.Core.List.{reverse_aux}
use Rattle.ids_types.specs.{Turn}
use Rattle.ids_types.specs.declared.entry.Act.{Act}
use Rattle.ids_types.specs.declared.entry.Act.TheVariants.{Report}
use Rattle.ids_types.specs.declared.entry.Carried.TheVariants.{Kept}
use Rattle.ids_types.specs.declared.entry.Entry.{Entry}
use Rattle.filter_chain.specs.History.{rows_of}
use Rattle.text_spec.specs.{AreHeld, Past, is_act, has_event as names_event, next, start, Fits, IsHeld, journal_grammar, Told, Line, begins, enters, loses, act_fields, turn_told, AreFaultless}
use Rattle.text_spec.proofs.JournalFacts.{entry_passes, sensor_is_there}
use Rattle.std.proofs.lemmas.List.Kept.{AllPairs-cons, AllPairs-filter}
use Rattle.chain_spec.specs.{Item, moments, Stored, event_of, events_of, has_event, renews, run_of, oldest_tick, row_of, newest_rows, memory_of, stored_of, stores, joined, closing_item, closing_ticks, is_of, Ending, ended, endings, items_where, reaches, Window, windows_of, Moment, closes, comes, head_for, head_moment, act_moment, with_all}
use Rattle.chain_spec.specs.declared.fate.Fate.TheVariants.{InWindow, AtThreshold}
use Rattle.chain_spec.proofs.StageLemmas.{all_keep, with_all-append}
use Rattle.event_memory.proofs.EventsLemmas.{is, is_not, any-of-take}
use Rattle.ids_config.specs.declared.parts.Aggregate.{Aggregate}

-- ---- stored items

-- the record that each item alone makes can be kept, ticks do not fall, and the newest is at most this one
abbrev AreBy : ℕ → List Stored → Type 0
AreBy tick [] = ⊤
AreBy tick (item ∷ before) = (item.tick ≤ tick) × IsKeepable (begun item) × AreBy item.tick before

-- so at a later tick
by_later : (early late : ℕ) (items : List Stored) → early ≤ late → AreBy early items → AreBy late items
by_later early late [] le by = tt
by_later early late (item ∷ before) le by = (omega (arith, by.0), by.1, by.2)

-- ---- the record of an event

-- the oldest is no later than the newest
oldest_by : (item : Stored) (run : List Stored) → AreBy item.tick run → oldest_tick item run ≤ item.tick
oldest_by item [] by = omega arith
oldest_by item (next ∷ run) by = omega (arith, by.0, oldest_by next run by.2)

-- the items of an event's newest record; where there are any, it can be kept and is the event's
run_kept : (k event tick : ℕ) (items : List Stored) → AreBy tick items → AreBy tick (run_of k event items)
    × (has_event event items ≡ true → IsKeepable (row_of k items event) × ((row_of k items event).key.event.0 ≡ event))
run_kept k event tick [] by = (tt, λ has. cc)
run_kept k event tick (item ∷ before) by =
    let run = run_of k event before in
    let more = if renews k item before then [] else run in
    let rest = run_kept k event item.tick before by.2 in
    grind (arith, by, rest, oldest_by item more, sum_by-cons (λ (one : Stored). one.count) item more, by_later item.tick tick run by.0, nat_tests)

-- ---- the records of all events

-- no event stands there twice
events_differ : (items : List Stored) → AllPairs (λ e f. e ≢ f) (events_of items)
events_differ [] = λ i j d less within. absurd (omega arith)
events_differ (item ∷ before) =
    let e = event_of item in
    AllPairs-cons (λ e f. e ≢ f) e (filter (is_not e) (events_of before))
    (λ k d low same. grind (arith, nat_tests, filter_passes (is_not e) (events_of before) k d low, same))
    (AllPairs-filter (λ e f. e ≢ f) (is_not e) (events_of before) (events_differ before))

-- the records of items that can be kept
memory_kept : (k : ℕ) (all : List Stored) → k ≤ 256 → AreBy (2 ^ 62) all → AreKeepable (memory_of k all)
memory_kept k all most by =
    let events = take k (events_of all) in
    let rows = newest_rows k all in
    let long : length rows ≡ length events = length-map events (row_of k all) in
    let few : length events ≤ k = omega (arith, length-take k (events_of all)) in
    let own : (p : ℕ) (d : Row) → p < length rows
    → IsKeepable (get_or rows p d) × ((get_or rows p d).key.event.0 ≡ get_or (events_of all) p 0) = λ p d within.
    let e = get_or events p 0 in
    grind (arith, common_steps, run_kept k e (2 ^ 62) all by, any-of-take e k all, list_any_at (is e) events p 0, eq-eqb e e refl) in
    record {
      each = All-permutation IsKeepable rows (reverse rows) (IsPermutation-reverse rows) (λ p d within. (own p d within).0);
      differ = λ i j d less within same.
          let first = own (length rows - 1 - i) d in
          let second = own (length rows - 1 - j) d in
          let apart = events_differ all (length rows - 1 - j) (length rows - 1 - i) 0 in
          grind (arith, common_steps, apart, first, second, get_or-reverse rows i d, get_or-reverse rows j d, same);
      few = omega (arith, length-reverse rows);
    }

module _ (config : Parts) where
  -- ---- endings

  -- the record that the item alone makes can be kept
  abbrev IsKept : Item → Type 0
  IsKept item = IsKeepable (begun (stored_of config item))

  -- so of the items of these endings, and ticks do not fall
  abbrev AreKept : ℕ → List Ending → Type 0
  AreKept tick past = AreBy tick (map (λ one. stored_of config one.item) past)

  -- and of the endings of these moments
  abbrev KeptAt : ℕ → List Moment → Type 0
  KeptAt tick before = AreKept tick (endings config before)

  -- those that are stored
  stored_by : (tick : ℕ) (past : List Ending) → AreKept tick past → AreBy tick (map (stored_of config) (items_where (stores config) past))
  stored_by tick [] by = tt
  stored_by tick (one ∷ past) by =
      grind (arith, by, stored_by one.item.tick past by.2, by_later one.item.tick tick (map (stored_of config) (items_where (stores config) past)) by.0)

  -- ---- a window closes

  -- all of the newest window can be kept
  abbrev IsNewest : List (Window Item) → Type 0
  IsNewest [] = ⊤
  IsNewest (w ∷ older) = IsKept w.opener × AllByRecursion IsKept w.more

  -- so of an event's windows
  newest_of : (interval event tick : ℕ) (past : List Ending) → AreKept tick past
      → IsNewest (windows_of (λ item. item.tick) interval (filter (is_of event) (items_where (reaches InWindow) past)))
  newest_of interval event tick [] by = tt
  newest_of interval event tick (one ∷ past) by = grind (arith, by, newest_of interval event one.item.tick past by.2)

  -- and so the one item of a window
  joined_kept : (last : Bool) (tick : ℕ) (x : Item) (more : List Item) → tick ≤ 2 ^ 62 → IsKept x → AllByRecursion IsKept more
      → IsKept (joined last tick (record { opener = x; more = more }))
  joined_kept last tick x [] small one all = grind (arith, one)
  joined_kept last tick x (next ∷ more) small one all = grind (arith, all, joined_kept last tick x more small one all.1)

  given_kept : (setting : Option Aggregate) (event tick : ℕ) (ticks : List ℕ) (end : Item → Ending) (past : List Ending)
      → ((item : Item) → (end item).item ≡ item) → tick ≤ 2 ^ 62 → AreKept tick past
      → AreKept tick (option_to_list (option_map end (closing_item setting tick ticks (filter (is_of event) (items_where (reaches InWindow) past)))) ++ past)
  given_kept None event tick ticks end past same small by = by
  given_kept (Some setting) event tick ticks end past same small by =
      grind (arith, by, same, newest_of setting.interval event tick past by, joined_kept setting.last tick)

  closing_kept : (tick : ℕ) → tick ≤ 2 ^ 62 → (event : ℕ) (before : List Moment) → KeptAt tick before → KeptAt tick (closes tick event ∷ before)
  closing_kept tick small event before by =
      let past = endings config before in
      given_kept (event_at config event).aggregate event tick (closing_ticks event before) (ended config before past AtThreshold) past (λ item. refl) small by

  -- ---- an item comes

  -- lines that can be held have no fault after what the lines before them tell
  abbrev AreFitting : Past → List Line → Type 0
  AreFitting past lines = AreFaultless (journal_grammar config) past lines × AllByRecursion IsHeld lines

  module _ (valid : IsValid config) (tick : ℕ) (small : tick ≤ 2 ^ 62) where
    comes_kept : (item : Item) (before : List Moment) → item.tick ≡ tick → item.event < length config.events
        → (1 ≤ item.count) × (item.count ≤ 65535) × IfSome item.stamp (λ stamp. stamp.0 < 2 ^ 64)
        × IfSome item.context (λ bytes. (length bytes ≤ 1024) × AreBytes bytes)
        → KeptAt tick before → KeptAt tick (comes item ∷ before)
    comes_kept item before at there fits by =
        let events = All-from_recursion (IsEvent config.profile) config.events valid.events in
        let event : IsEvent config.profile (event_at config item.event) = events item.event _ there in
        grind (arith, event, valid.count, fits, at, by)

    -- an internal event comes
    head_kept : (index : Option ℕ) (number : ℕ) (before : List Moment) → is_within (length config.events) index ≡ true → KeptAt tick before
        → KeptAt tick (with_all before (map (head_moment tick) (head_for (option_map index_of index) number)))
    head_kept index number before within by = grind (arith, nat_tests, within, comes_kept)

    -- an entry comes
    act_kept : (caller call : ℕ) (act : Act (List ℕ)) (before : List Moment) → is_act act ≡ true → names_event config act ≡ true
        → AreHeld (act_fields caller call act) → KeptAt tick before → KeptAt tick (act_moment tick act ∷ before)
    act_kept caller call (Report event count stamp (Kept class claim bytes)) before well has held by =
        let bytes_fit : AreBytes bytes = λ k d within. omega (arith, get_or_default bytes k d 0 within, held.1.1.1.1.1.1.0.1.1.0.0 k) in
        comes_kept _ before refl (sensor_is_there config event.0 has) (grind (arith, well, held.1.1.1.1.1.0, bytes_fit)) by
    act_kept caller call (Report event count stamp context) before well has held by =
        comes_kept _ before refl (sensor_is_there config event.0 has) (grind (arith, well, held)) by
    act_kept caller call act before well has held by = by

    -- the entries of a turn come, and the lines after them are fitting
    entries_kept : (past : Past) (entries : List (Entry (List ℕ))) (rest : List Line) → AreFitting past (map enters entries ++ rest)
        → ((before : List Moment) → KeptAt tick before → KeptAt tick (with_all before (map (λ entry. act_moment tick entry.act) entries)))
        × ((later : Past) × (later.tick ≡ past.tick) × AreFitting later rest)
    entries_kept past [] rest fit = (λ before by. by, (past, refl, fit))
    entries_kept past (entry ∷ entries) rest fit =
        let passes = entry_passes config past entry fit.0.0 in
        let more = entries_kept (next past (enters entry)) entries rest (fit.0.1, fit.1.1) in
        (λ before by. more.0 _ (act_kept entry.caller entry.call entry.act before passes.act passes.event fit.1.0 by), more.1)

  -- the endings of the first k turns, after those of earlier turns
  turns_kept : IsValid config → (k : ℕ) (past : Past) (before turns : List Turn) (rest : List Line) → past.tick ≤ 2 ^ 62
      → KeptAt past.tick (moments config before) → AreFitting past (flat_map turn_told turns ++ rest)
      → KeptAt (2 ^ 62) (moments config (reverse_aux (take k turns) before))
  turns_kept valid (suc k) past before (turn ∷ turns) rest small by fit =
      let tick = turn.head.tick in
      let late : (past.tick ≤ tick) × (tick ≤ 2 ^ 62) = grind (arith, fit.0.0) in
      let entries = entries_kept valid tick late.1 (next past (begins turn.head)) turn.entries (flat_map turn_told turns ++ rest)
      (rw (← append_assoc) (fit.0.1, fit.1.1)) in
      let closed = all_keep (KeptAt tick) (closes tick) (closing_kept tick late.1) (range_with_len 0 (length config.events)) (moments config before)
      (by_later past.tick tick _ late.0 by) in
      let internal = valid.internal in
      let now : KeptAt tick (moments config (turn ∷ before)) = simp (map-append, with_all-append)
      (search (closed, head_kept valid tick late.1, internal.lost_events, internal.lost_contexts, internal.limited, entries.0)) in
      let later = entries.1 in
      turns_kept valid k later.0 (turn ∷ before) turns rest (rw later.1 late.1) (rw later.1 now) later.2
  turns_kept valid k past before turns rest small by fit = by_later past.tick (2 ^ 62) _ small by

-- the records after the first k turns
pub rows_kept : (config : Parts) (told : Told) (k : ℕ) → IsValid config → Fits config told → AreKeepable (rows_of config (take k told.turns))
rows_kept config told k valid fits =
    let past = endings config (moments config (reverse (take k told.turns))) in
    memory_kept config.memory (map (stored_of config) (items_where (stores config) past)) valid.memory
    (stored_by config (2 ^ 62) past
    (turns_kept config valid k start [] told.turns (map loses told.losses) (omega arith) tt (fits.faultless, fits.held)))
