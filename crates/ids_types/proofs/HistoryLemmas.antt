-- A history's fields after an entry was added: what was there reads as before, and the last turn has the entry.
use Rattle.std.proofs.Common.{◌≡◌, ℕ, zero, suc, ◌+◌, ◌-◌, ◌<◌, ◌≤◌, Bool, List, [], ◌∷◌, ◌++◌, length, map, set, get_or, refl, ap, arith, length-drop, length-append, length-set, append_assoc, get_or-set_same}
use Rattle.std.specs.Prelude.{slice_range, IsTrue}
use Rattle.std.specs.List.{AllByRecursion}
use Rattle.std.proofs.lemmas.Grind.{common_steps, flat_map-append}
use Rattle.std.proofs.lemmas.List.{append-nil, drop-append-le, take-append-le, take_all, map-append, take-map, drop-map, drop_at, length-map, get_or_append_left, get_or-append-add}
use Rattle.std.proofs.lemmas.List.Elements.{All-from_recursion, recursion_from_All, All-set, All-push, All-weaker}
use Rattle.ids_types.specs.{Act, Entry, TurnHead, EntryRow, TurnRow, RowKind, act_bytes, kept_bytes, stamp_before, act_of, entry_of, turn_of, act_numbers, own_numbers, row_by, row_of, KindWithin, EntryWithin, RowWithin, Lies}
use Rattle.ids_types.specs.Turns.{Turn, extended, with_entry, entries_of}

-- a range within a list is the same in a longer list
pub range_of_front : {A : Type 0} (xs ys : List A) (i j : ℕ) → i ≤ j → j ≤ length xs → slice_range (xs ++ ys) i j ≡ slice_range xs i j
range_of_front xs ys i j ordered within = grind (arith, drop-append-le, take-append-le, length-drop)

-- what emptying needs
pub ruleset clearing = (common_steps, length-map)

-- ---- one entry

-- a stamp is the same before a longer list's place
stamp_same : (numbers more : List ℕ) (stamped : Bool) (place : ℕ) → (IsTrue stamped → 1 ≤ place) → place ≤ length numbers
    → stamp_before (numbers ++ more) stamped place ≡ stamp_before numbers stamped place
stamp_same numbers more stamped place some there = grind (arith, common_steps, get_or_append_left)

-- what a row tells stays where numbers and bytes are added
act_same : (numbers more bytes own : List ℕ) (row : EntryRow) (kind : RowKind)
    → row.place ≤ length numbers → (IsTrue row.stamped → 1 ≤ row.place)
    → KindWithin numbers (length bytes) row.place kind → act_of (numbers ++ more) (bytes ++ own) row kind ≡ act_of numbers bytes row kind
act_same numbers more bytes own row kind there some within = grind (arith, common_steps, stamp_same, range_of_front, get_or_append_left)

-- the same of entries
entries_same : (numbers more bytes own : List ℕ) (rows : List EntryRow) → AllByRecursion (EntryWithin numbers (length bytes)) rows
    → map (entry_of (numbers ++ more) (bytes ++ own)) rows ≡ map (entry_of numbers bytes) rows
entries_same numbers more bytes own [] within = refl
entries_same numbers more bytes own (row ∷ rows) within = grind (arith, common_steps, act_same, entries_same numbers more bytes own rows within.1)

-- what a kind points to is there in longer lists
kind_more : (numbers more : List ℕ) (n m place : ℕ) (kind : RowKind) → n ≤ m
    → KindWithin numbers n place kind → KindWithin (numbers ++ more) m place kind
kind_more numbers more n m place kind le within = grind (arith, common_steps, length-append, get_or_append_left)

-- the same of a row
EntryWithin-more : (numbers more : List ℕ) (n m : ℕ) → n ≤ m → (row : EntryRow)
    → EntryWithin numbers n row → EntryWithin (numbers ++ more) m row
EntryWithin-more numbers more n m le row within = grind (arith, common_steps, length-append, kind_more)

-- what was put at the end is that of its range
range_of_end : (front middle own : List ℕ) (i j : ℕ) → i ≡ length front + length middle → j ≡ i + length own
    → slice_range (front ++ (middle ++ own)) i j ≡ own
range_of_end front middle own i j start end =
    rw (end, start, ← append_assoc front middle own, ← length-append front middle) (grind (arith, drop_at, take_all))

-- the numbers that were put at the end are found there
index_own : (front own : List ℕ) (k place : ℕ) → place ≡ length front + k → get_or (front ++ own) place 0 ≡ get_or own k 0
index_own front own k place is = rw is (get_or-append-add front own k 0)

-- an entry that was put is read back, by its act
act_back : (numbers bytes : List ℕ) (caller call : ℕ) (act : Act (List ℕ))
    → entry_of (numbers ++ act_numbers (length bytes) act) (bytes ++ act_bytes act) (row_by (length numbers) caller call act)
    ≡ record { caller = caller; call = call; act = act }
act_back numbers bytes caller call act = grind (arith, common_steps, index_own, range_of_end)

-- ---- turns

-- the turn of a row among all entries
abbrev turn_in : List (Entry (List ℕ)) → TurnRow → Turn
turn_in all row = record { head = row.head; entries = slice_range all row.start row.end }

-- the turns of rows are those among the entries of all rows
turns_in : (numbers bytes : List ℕ) (entries : List EntryRow) (rows : List TurnRow)
    → map (turn_of numbers bytes entries) rows ≡ map (turn_in (map (entry_of numbers bytes) entries)) rows
turns_in numbers bytes entries [] = refl
turns_in numbers bytes entries (row ∷ rows) = grind (arith, common_steps, drop-map, take-map, turns_in numbers bytes entries rows)

-- the last turn has the entry
turn_extended : (all : List (Entry (List ℕ))) (entry : Entry (List ℕ)) (row : TurnRow) → RowWithin (length all) row → row.end ≡ length all
    → turn_in (all ++ entry ∷ []) (record { head = row.head; start = row.start; end = row.end + 1 }) ≡ extended (turn_in all row) entry
turn_extended all entry row in_range at_end = grind (arith, common_steps, drop-append-le, take_all, length-drop, length-append)

-- all turns: only the last one has changed
turns_extended : (all : List (Entry (List ℕ))) (entry : Entry (List ℕ)) (rows : List TurnRow) (last : ℕ) (row : TurnRow)
    → suc last ≡ length rows → AllByRecursion (RowWithin (length all)) rows → row ≡ get_or rows last row → row.end ≡ length all
    → map (turn_in (all ++ entry ∷ [])) (set rows last (record { head = row.head; start = row.start; end = row.end + 1 }))
    ≡ with_entry (map (turn_in all) rows) entry
turns_extended all entry (r ∷ []) zero row count in_range is at_end = grind (arith, turn_extended all entry r in_range.0)
turns_extended all entry (r ∷ s ∷ rows) (suc last) row count in_range is at_end = grind (arith, common_steps, range_of_front, turns_extended all entry (s ∷ rows) last row (omega arith) in_range.1 is at_end)
turns_extended all entry rows last row count in_range is at_end = absurd (omega arith)

-- as many turns with one entry more
pub length_with_entry : (turns : List Turn) (entry : Entry (List ℕ)) → length (with_entry turns entry) ≡ length turns
length_with_entry [] entry = refl
length_with_entry (turn ∷ []) entry = refl
length_with_entry (turn ∷ next ∷ turns) entry = ap suc (length_with_entry (next ∷ turns) entry)

-- the entries of turns with one entry more
pub entries_of-with_entry : (turns : List Turn) (entry : Entry (List ℕ)) → 0 < length turns
    → entries_of (with_entry turns entry) ≡ entries_of turns ++ entry ∷ []
entries_of-with_entry [] entry some = absurd (omega arith)
entries_of-with_entry (turn ∷ []) entry some = rw (append-nil (turn.entries ++ entry ∷ []), append-nil turn.entries) refl
entries_of-with_entry (turn ∷ next ∷ turns) entry some =
    grind (arith, common_steps, append_assoc, entries_of-with_entry (next ∷ turns) entry)

-- ---- the lists of a history

-- with a turn that has begun
pub lies_begun : (numbers bytes : List ℕ) (entries : List EntryRow) (rows : List TurnRow) (head : TurnHead) (place : ℕ)
    → place ≡ length entries → Lies numbers bytes entries rows
    → Lies numbers bytes entries (rows ++ record { head = head; start = place; end = place } ∷ [])
lies_begun numbers bytes entries rows head place at_end lies = grind (arith, common_steps, map-append, flat_map-append, append-nil, recursion_from_All, All-push, All-from_recursion, common_steps)

-- with an entry more in the last turn
module _ (numbers bytes : List ℕ) (entries : List EntryRow) (rows : List TurnRow) (lies : Lies numbers bytes entries rows)
    (turns : List Turn) (view_is : map (turn_of numbers bytes entries) rows ≡ turns) (some : 0 < length turns)
    (entry : Entry (List ℕ)) (len : ℕ) (at : len ≡ length rows) (row : TurnRow) (is : row ≡ get_or rows (len - 1) row)
    (numbers' bytes' : List ℕ) (entries' : List EntryRow) (numbers_is : numbers' ≡ numbers ++ own_numbers (length bytes) entry)
    (bytes_is : bytes' ≡ bytes ++ kept_bytes entry) (entries_is : entries' ≡ entries ++ row_of (length numbers) entry ∷ []) where
  -- the rows with the entry
  abbrev rows' : List TurnRow
  rows' = set rows (len - 1) (record { head = row.head; start = row.start; end = row.end + 1 })

  count : suc (len - 1) ≡ length rows
  count = omega (arith, ap length view_is, length-map rows (turn_of numbers bytes entries))

  at_end : row.end ≡ length entries
  at_end = grind (arith, lies.last row, count)

  -- the last turn has it
  pub turns_added : map (turn_of numbers' bytes' entries') rows' ≡ with_entry turns entry
  turns_added =
      let all = map (entry_of numbers bytes) entries in
      let old = entries_same numbers (own_numbers (length bytes) entry) bytes (kept_bytes entry) entries lies.entries_in in
      let back = act_back numbers bytes entry.caller entry.call entry.act in
      let added : map (entry_of numbers' bytes') entries' ≡ all ++ entry ∷ [] =
      rw (numbers_is, bytes_is, entries_is, map-append _ entries (row_of (length numbers) entry ∷ []), old, back) refl in
      grind (arith, common_steps, turns_in, turns_extended, count, at_end)

  pub lies_added : EntryWithin (numbers ++ own_numbers (length bytes) entry) (length (bytes ++ kept_bytes entry)) (row_of (length numbers) entry)
      → Lies numbers' bytes' entries' rows'
  lies_added within =
      let own = own_numbers (length bytes) entry in
      let more_entries : length entries' ≡ length entries + 1 = rw entries_is (length-append entries (row_of (length numbers) entry ∷ [])) in
      let flat : entries_of (map (turn_of numbers' bytes' entries') rows') ≡ entries_of turns ++ entry ∷ [] =
      rw turns_added (entries_of-with_entry turns entry some) in
      let old_rows = All-from_recursion (RowWithin (length entries)) rows lies.rows_in in
      let in_range : RowWithin (length entries) row = rw is (old_rows (len - 1) row (omega (arith, count))) in
      let more_rows = All-weaker (RowWithin (length entries)) (RowWithin (length entries + 1))
      (λ r r_in. (r_in.0, omega (arith, r_in.1))) rows old_rows in
      record {
        rows_in = rw more_entries (recursion_from_All _ _ (All-set (RowWithin (length entries + 1)) rows (len - 1) _ (omega (arith, in_range)) more_rows));
        entries_in = rw (numbers_is, bytes_is, entries_is) (recursion_from_All _ _
            (All-push (EntryWithin (numbers ++ own) (length (bytes ++ kept_bytes entry))) entries _
            (All-weaker (EntryWithin numbers (length bytes)) _
            (EntryWithin-more numbers own _ _ (omega (arith, length-append bytes (kept_bytes entry)))) entries
            (All-from_recursion (EntryWithin numbers (length bytes)) entries lies.entries_in)) within));
        last = λ d rest. grind (arith, common_steps, length-set, get_or-set_same, count, more_entries, at_end);
        all = rw (flat, ← view_is, length-append (entries_of (map (turn_of numbers bytes entries) rows)) (entry ∷ []), lies.all, more_entries) refl;
        kept = rw (flat, flat_map-append kept_bytes (entries_of turns) (entry ∷ []), append-nil (kept_bytes entry), ← view_is, lies.kept, bytes_is) refl;
      }
