-- The records after an item are the newest ones of the items with it.
use Rattle.event_memory.proofs.Names.{cases_Bool, find, position_or_len, remove, ◌≡◌, ◌≤◌, ◌==◌, ℕ, zero, suc, true, if◌then◌else◌, List, [], ◌∷◌, length, map, take, filter, Option, refl, ap, arith, rules, drop_of_length-le, take_all, Stored, event_of, events_of, has_event, newest_rows, renews, row_of, row_over, run_of, append-nil, length-map, length-take, take-map, Row, remove_key, length-remove, Held, Stands, added, after_storing, after_storing_at, begun, is_of, no_row, told, common_steps}
use Rattle.std.specs.Option.{option_map_or}
use Rattle.std.proofs.lemmas.List.Folds.{find_at}
use Rattle.std.proofs.lemmas.List.Sums.{sum_by-cons}
use Rattle.std.proofs.lemmas.Option.{slice_get-get_or, slice_get_past}
use Rattle.event_memory.proofs.EventsLemmas.{is, is_not, any-of-take, events_once, renews-newest}
use Rattle.event_memory.proofs.FirstLemmas.{find-made, removed, take-made}

-- the records with an item: its event's first, and then the others
abbrev renewed : ℕ → Stored → List Row → List Row
renewed k item rows =
    let test = is_of (event_of item) in take k (option_map_or (added item) (find test rows) (begun item) ∷ remove_key test rows)

-- by the first record of the event, and the others
after_storing_rows : (item : Stored) (memory : Held) → length memory.rows ≤ memory.room
    → (after_storing item memory).rows ≡ renewed memory.room item memory.rows
after_storing_rows item memory fits =
    let test = is_of (event_of item) in
    let rows = memory.rows in
    let place = position_or_len test rows in
    let none : length rows ≤ place → remove rows place ≡ rows = λ past. search (rules, take_all, drop_of_length-le, append-nil) in
    grind (arith, common_steps, none, find_at test rows, slice_get-get_or rows place no_row, slice_get_past rows place, removed test rows, length-remove rows place, take_all)

-- ---- records of events

-- the record of an event is of it
row-event : (k : ℕ) (event : ℕ) (items : List Stored) → (row_of k items event).key.event.0 ≡ event
row-event k event [] = refl
row-event k event (item ∷ before) = grind (arith, common_steps, cases_Bool, row-event k event before)

-- an item more leaves the records of other events as they are
rows-others : (k : ℕ) (item : Stored) (items : List Stored) (events : List ℕ)
    → let others = filter (is_not (event_of item)) events in map (row_of k (item ∷ items)) others ≡ map (row_of k items) others
rows-others k item items [] = refl
rows-others k item items (event ∷ events) = grind (arith, common_steps, cases_Bool, rows-others k item items events)

-- the record of one item, and of one more
one_begun : (event : ℕ) (item : Stored) → item.count ≤ 65535 → begun item ≡ row_over event (item ∷ [])
one_begun event item small = ap (λ sum. told item sum item.tick) (omega arith)

one_added : (event : ℕ) (item first : Stored) (run : List Stored)
    → added item (row_over event (first ∷ run)) ≡ row_over event (item ∷ first ∷ run)
one_added event item first run = grind (arith, common_steps, sum_by-cons)

-- an item of an event that has a record
row-added : (k event : ℕ) (item : Stored) (items : List Stored) → has_event event items ≡ true
    → added item (row_of k items event) ≡ row_over event (item ∷ run_of k event items)
row-added k event item [] has = cc
row-added k event item (first ∷ before) has =
    grind (arith, common_steps, one_added event item first (if renews k first before then [] else run_of k event before), row-added k event item before)

-- ---- the step

-- the record that an item makes
row-made : (k : ℕ) (item : Stored) (items : List Stored) → item.count ≤ 65535
    → option_map_or (added item) (find (is_of (event_of item)) (newest_rows k items)) (begun item) ≡ row_of k (item ∷ items) (event_of item)
row-made k item items small =
    let e = event_of item in
    let events = take k (events_of items) in
    let row = row_of k items in
    let found = find-made row e (is_of e) (λ event. ap (λ x. x == e) (row-event k event items)) events in
    grind (arith, common_steps, renews-newest, is, row-added, any-of-take, one_begun)

rows-step : (k : ℕ) (item : Stored) (items : List Stored) → item.count ≤ 65535
    → renewed k item (newest_rows k items) ≡ newest_rows k (item ∷ items)
rows-step zero item items small = refl
rows-step (suc k) item items small =
    let e = event_of item in
    let events = events_of items in
    let row = row_of (suc k) items in
    let made = take-made row e (is_of e) (λ event. ap (λ x. x == e) (row-event (suc k) event items)) k events in
    cc (row-made (suc k) item items small, made, (events_once e items).2, rows-others (suc k) item items events, take-map (row_of (suc k) (item ∷ items)) k (filter (is_not e) events))

-- a memory that stands for items stands for one item more
pub stands_after : (item : Stored) (memory : Held) (items : List Stored) → item.count ≤ 65535 → Stands memory items
    → Stands (after_storing item memory) (item ∷ items)
stands_after item memory items small stands =
    let same_room : (place : Option ℕ) → (after_storing_at item memory place).room ≡ memory.room = λ place. grind arith in
    grind (arith, common_steps, length-map, length-take, same_room, after_storing_rows, rows-step)
