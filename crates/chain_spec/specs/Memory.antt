-- The event memory: a record for each of the last few events that were stored.
-- Public standard: AUTOSAR SWS Intrusion Detection System Manager, security event memory. How many records there
-- are, and what a record keeps, are this project's own.
use Rattle.std.specs.Prelude.{ℕ, ◌==◌, ◌||◌, not, min, nat_le, Bool, List, [], ◌∷◌, length, map, take, reverse, filter, sum_by, Option, None, if◌then◌else◌}
use Rattle.std.specs.List.{list_any}
use Rattle.ids_types.specs.declared.key.Key.{Key}
use Rattle.ids_types.specs.declared.names.Stamp.{Stamp}
pub use Rattle.ids_types.specs.MemoryRow.{Row}

-- an item as it is stored; without context data the list is empty
pub record Stored : Type 0 where
  pub tick : ℕ
  pub key : Key
  pub count : ℕ
  pub stamp : Option Stamp
  pub context : List ℕ

-- the event of a stored item
abbrev pub event_of : Stored → ℕ
event_of item = item.key.event.0

-- one of the items is of this event
abbrev pub has_event : ℕ → List Stored → Bool
has_event event items = list_any (λ item. event_of item == event) items

-- the events of items, each once, the one stored last first
abbrev pub events_of : List Stored → List ℕ
events_of [] = []
events_of (item ∷ before) = event_of item ∷ filter (λ event. not (event_of item == event)) (events_of before)

-- the items since an event was stored
abbrev pub since : ℕ → List Stored → List Stored
since event [] = []
since event (item ∷ before) = if event_of item == event then [] else item ∷ since event before

-- an item begins a new record, if there are at most k and these items came before it: it is the first of its
-- event, or its record was displaced, since k other events were stored after it
abbrev pub renews : ℕ → Stored → List Stored → Bool
renews k item before =
    not (has_event (event_of item) before) || nat_le k (length (events_of (since (event_of item) before)))

-- the items of an event's newest record
abbrev pub run_of : ℕ → ℕ → List Stored → List Stored
run_of k event [] = []
run_of k event (item ∷ before) =
    if event_of item == event
    then item ∷ (if renews k item before then [] else run_of k event before)
    else run_of k event before

-- the key of an event of which nothing was stored
abbrev pub no_key : ℕ → Key
no_key event = record { event = record { 0 = event }; id = 0; sensor = 0 }

-- the tick of the oldest of the items
abbrev pub oldest_tick : Stored → List Stored → ℕ
oldest_tick item [] = item.tick
oldest_tick item (next ∷ before) = oldest_tick next before

-- the record over such items
abbrev pub row_over : ℕ → List Stored → Row
row_over event [] = record { key = no_key event; occurrences = 0; first = 0; last = 0; stamp = None; context = [] }
row_over event (item ∷ before) = record {
  key = item.key;
  occurrences = min (sum_by (λ one. one.count) (item ∷ before)) 65535;
  first = oldest_tick item before;
  last = item.tick;
  stamp = item.stamp;
  context = item.context;
}

-- the newest record of an event
abbrev pub row_of : ℕ → List Stored → ℕ → Row
row_of k items event = row_over event (run_of k event items)

-- the records of the last k events, the one stored last first
abbrev pub newest_rows : ℕ → List Stored → List Row
newest_rows k items = map (row_of k items) (take k (events_of items))

-- the memory of at most k records, the one stored last at the end
abbrev pub memory_of : ℕ → List Stored → List Row
memory_of k items = reverse (newest_rows k items)
