-- How a history lies in memory: rows of turns over rows of entries, and in lists of their own the
-- numbers and the context bytes that not every entry has.
use Rattle.std.specs.Prelude.{◌≡◌, ℕ, ◌+◌, ◌-◌, ◌<◌, ◌≤◌, Bool, true, false, List, [], ◌∷◌, ◌++◌, length, map, IsTrue, is_some, slice_range, slice_index, slice_index_or, Option, Some, None}
use Rattle.std.specs.List.{AllByRecursion}
use Rattle.ids_types.specs.Names.{Carried, Absent, Kept, Missing, Act, Report, State, SetMode, Entry, Stamp, EntryRow, RowKind, Bare, Holding, Lacking, StateTo, ModeTo, TurnRow}
use Rattle.ids_types.specs.Turns.{Turn, entries_of, context_bytes}

-- ---- what a row tells

-- the stamp before a place
abbrev pub stamp_before : List ℕ → Bool → ℕ → Option Stamp
stamp_before numbers false place = None
stamp_before numbers true place = Some (record { 0 = slice_index numbers (place - 1) })

-- the bytes between the ends that stand at a place
abbrev pub bytes_at : List ℕ → List ℕ → ℕ → List ℕ
bytes_at numbers bytes place = slice_range bytes (slice_index numbers place) (slice_index numbers (place + 1))

-- the context of a row
abbrev pub context_of : List ℕ → List ℕ → ℕ → RowKind → Carried (List ℕ)
context_of numbers bytes place Bare = Absent
context_of numbers bytes place (Holding class) = Kept class (slice_index numbers place) (bytes_at numbers bytes (place + 1))
context_of numbers bytes place (Lacking count) = Missing (slice_range numbers place (place + count))
context_of numbers bytes place (StateTo state) = Absent
context_of numbers bytes place (ModeTo mode) = Absent

-- the act of a row
abbrev pub act_of : List ℕ → List ℕ → EntryRow → RowKind → Act (List ℕ)
act_of numbers bytes row (StateTo state) = State state
act_of numbers bytes row (ModeTo mode) = SetMode (record { 0 = row.event }) mode
act_of numbers bytes row kind =
    let stamp = stamp_before numbers row.stamped row.place in
    Report (record { 0 = row.event }) row.count stamp (context_of numbers bytes row.place kind)

-- the entry of a row
abbrev pub entry_of : List ℕ → List ℕ → EntryRow → Entry (List ℕ)
entry_of numbers bytes row = record { caller = row.caller; call = row.call; act = act_of numbers bytes row row.kind }

-- the turn of a row, over the rows of all entries
abbrev pub turn_of : List ℕ → List ℕ → List EntryRow → TurnRow → Turn
turn_of numbers bytes entries row = record { head = row.head; entries = map (entry_of numbers bytes) (slice_range entries row.start row.end) }

-- ---- the row of an entry

-- the number of a stamp
abbrev pub stamp_numbers : Option Stamp → List ℕ
stamp_numbers None = []
stamp_numbers (Some stamp) = stamp.0 ∷ []

-- the numbers of a context whose bytes lie from a place on
abbrev pub context_numbers : ℕ → Carried (List ℕ) → List ℕ
context_numbers start Absent = []
context_numbers start (Kept class claim bytes) = claim ∷ start ∷ (start + length bytes) ∷ []
context_numbers start (Missing numbers) = numbers

-- the kind of a report with this context
abbrev pub kind_of : Carried (List ℕ) → RowKind
kind_of Absent = Bare
kind_of (Kept class claim bytes) = Holding class
kind_of (Missing numbers) = Lacking (length numbers)

-- the numbers of an act whose bytes lie from a place on
abbrev pub act_numbers : ℕ → Act (List ℕ) → List ℕ
act_numbers start (Report event count stamp context) = stamp_numbers stamp ++ context_numbers start context
act_numbers start (State state) = []
act_numbers start (SetMode event mode) = []

-- the numbers of an entry whose bytes lie from a place on
abbrev pub own_numbers : ℕ → Entry (List ℕ) → List ℕ
own_numbers start e = act_numbers start e.act

-- a row of this caller by this call, with these numbers of an event
abbrev pub row_with : ℕ → ℕ → ℕ → ℕ → ℕ → Bool → RowKind → EntryRow
row_with caller call place event count stamped kind = record {
  call = call;
  place = place;
  event = event;
  count = count;
  caller = caller;
  stamped = stamped;
  kind = kind;
}

-- the row of an act of this caller by this call, whose numbers lie from a place on
abbrev pub row_by : ℕ → ℕ → ℕ → Act (List ℕ) → EntryRow
row_by at caller call (Report event count stamp context) =
    row_with caller call (at + length (stamp_numbers stamp)) event.0 count (is_some stamp) (kind_of context)
row_by at caller call (State state) = row_with caller call at 0 0 false (StateTo state)
row_by at caller call (SetMode event mode) = row_with caller call at event.0 0 false (ModeTo mode)

-- the row of an entry
abbrev pub row_of : ℕ → Entry (List ℕ) → EntryRow
row_of at e = row_by at e.caller e.call e.act

-- ---- what holds of rows

-- the numbers of this kind from a place on are there, and point to so many bytes
abbrev pub KindWithin : List ℕ → ℕ → ℕ → RowKind → Type 0
KindWithin numbers n place Bare = Unit {0}
KindWithin numbers n place (Holding class) =
    (place + 3 ≤ length numbers) × (slice_index numbers (place + 1) ≤ slice_index numbers (place + 2)) × (slice_index numbers (place + 2) ≤ n)
KindWithin numbers n place (Lacking count) = (count ≤ 4) × (place + count ≤ length numbers)
KindWithin numbers n place (StateTo state) = Unit {0}
KindWithin numbers n place (ModeTo mode) = Unit {0}

-- the row points to numbers that are there, and to so many bytes
pub record EntryWithin (numbers : List ℕ) (n : ℕ) (row : EntryRow) : Type 0 where
  pub there : row.place ≤ length numbers
  pub stamp : IsTrue row.stamped → 1 ≤ row.place
  pub kind : KindWithin numbers n row.place row.kind

-- the row's entries are among so many
abbrev pub RowWithin : ℕ → TurnRow → Type 0
RowWithin n row = (row.start ≤ row.end) × (row.end ≤ n)

-- the last row goes up to the last entry
abbrev pub LastRowEnds : List TurnRow → ℕ → Type 0
LastRowEnds rows n = (d : TurnRow) → 0 < length rows → (slice_index_or rows (length rows - 1) d).end ≡ n

-- rows point to what is there, and all that is there is that of a turn
pub record Lies (numbers bytes : List ℕ) (entries : List EntryRow) (rows : List TurnRow) : Type 0 where
  pub rows_in : AllByRecursion (RowWithin (length entries)) rows
  pub entries_in : AllByRecursion (EntryWithin numbers (length bytes)) entries
  pub last : LastRowEnds rows (length entries)
  pub all : length (entries_of (map (turn_of numbers bytes entries) rows)) ≡ length entries
  pub kept : context_bytes (map (turn_of numbers bytes entries) rows) ≡ bytes
