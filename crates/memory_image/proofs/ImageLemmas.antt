-- The records of an image: how long they are, that they are read as they were written, and how they are restored.
pub use Rattle.std.proofs.Common.{◌≡◌, ℕ, suc, ◌*◌, ◌^◌, ◌<◌, ◌≤◌, Bool, true, List, [], ◌∷◌, ◌++◌, length, reverse, take, get_or, option_to_list, Option, Some, None, IfSome, refl, sym, ap, subst, ◌∙◌, arith, rules, append_assoc, map, eq-eqb, vec_capacity, ◌≢◌, filter, flat_map, if◌then◌else◌, option_map, inl, inr}
pub use Rattle.std.proofs.lemmas.List.{append-nil, length-append, length-reverse, length-take, take_all, get_or_default, get_or-reverse, get_or_append_left, get_or_at, length-map, nil_from_length, reverse-append, map-append}
pub use Rattle.std.specs.List.{All, AllPairs, position, position_or_len, AllByRecursion, range_with_len}
pub use Rattle.ids_frame.specs.Bytes.{AreBytes}
pub use Rattle.ids_types.specs.MemoryRow.{Row}
pub use Rattle.memory_image.specs.Images.{AreKeepable, Differ, Fields, IsImageOf, fields, IsKeepable, fields_bytes, fields_of, flag_of, joined, number_of, row_bytes}
pub use Rattle.std.specs.Int.{w16, w64, to_be_bytes}
pub use Rattle.ids_frame.proofs.PartLemmas.{IsPart, made, one_answer, part, parts_are_part}
pub use Rattle.ids_frame.proofs.NumberLemmas.{byte_is_part, bytes_are_part, number_is_part, wide16, wide64}
pub use Rattle.memory_image.specs.Reading.{plain_fields, HasPlace}
pub use Rattle.std.proofs.lemmas.Bool.Decides.{nat_tests}
pub use Rattle.std.proofs.lemmas.List.Concat.{flat_map-append, length-flat_map}
pub use Rattle.std.proofs.lemmas.List.Edits.{length-remove}
pub use Rattle.std.proofs.lemmas.List.Elements.{All-head, All-push, All-tail, All-from_recursion, filter_passes}
pub use Rattle.std.proofs.lemmas.List.Sorted.{All-permutation, IsPermutation-reverse, IsPermutation-sym}
pub use Rattle.std.proofs.lemmas.List.Quantifiers.{all_pairs_push, position-Some}
pub use Rattle.std.proofs.lemmas.List.Sums.{fails_before_first, sum_by-le, sum_by-cons}
pub use Rattle.chain_spec.specs.{Stored, event_of}
pub use Rattle.event_memory.specs.Held.{Held, Stands, after_storing, begun, is_of, stored, no_row}
pub use Rattle.event_memory.proofs.StandsLemmas.{stands_after}
pub use Rattle.event_memory.specs.Views.{plain_row}
unfoldable pub use Rattle.memory_image.specs.Reading.{fields_at}
pub use Rattle.std.specs.Prelude.{⊤, ◌-◌}
pub use Rattle.ids_config.specs.Parts.{Parts}
pub use Rattle.ids_config.specs.{event_at, index_of, is_within, IsValid, IsEvent}
pub use Rattle.std.proofs.lemmas.List.Folds.{list_any_at, length-flat_map-take}
pub use Rattle.std.proofs.lemmas.Grind.{common_steps}

-- pieces that were appended, one after the other
pub appended : (a b c d e f g h i j : List ℕ)
    → ((((((((a ++ b) ++ c) ++ d) ++ e) ++ f) ++ g) ++ h) ++ i) ++ j ≡ a ++ (b ++ (c ++ (d ++ (e ++ (f ++ (g ++ (h ++ (i ++ j))))))))
appended a b c d e f g h i j = simp append_assoc

-- at most 1,058 bytes for each
pub length-all : (rows : List Row) → All IsKeepable rows → length (joined rows) ≤ 1058 * length rows
length-all rows all =
    rw (length-flat_map row_bytes rows)
    (omega (arith, sum_by-le (λ row. length (row_bytes row)) 1058 rows (λ k d low. omega (arith, (all k d low).size))))

-- ---- fields are read from an image exactly where they were written, and tell one record

-- fields that so many bytes can say
abbrev pub Fit : Fields → Type 0
Fit f =
    (f.event < 2 ^ 16) × (f.id < 2 ^ 16) × (f.sensor < 256) × (f.occurrences < 2 ^ 16) × (f.first < 2 ^ 64) × (f.last < 2 ^ 64)
    × (f.flag < 256) × (f.number < 2 ^ 64) × (length f.context < 2 ^ 16) × AreBytes f.context

-- fields are a part of bytes
pub fields_are_part : IsPart fields_at fields_bytes Fit
unfolding fields_at
fields_are_part =
    let two = number_is_part w16 (2 ^ 16) wide16 in
    let eight = number_is_part w64 (2 ^ 64) wide64 in
    parts_are_part
    (part two (λ event. part two (λ id. part byte_is_part (λ sensor. part two (λ occurrences. part eight (λ first. part eight (λ last.
    part byte_is_part (λ flag. part eight (λ number. part two (λ size. part (bytes_are_part size) (λ context.
    made (fields event id sensor occurrences first last flag number context))))))))))))
    fields_bytes Fit
    (λ v can. let context = v.1.1.1.1.1.1.1.1.1.0 in let many = can.1.1.1.1.1.1.1.1.1.0 in record {
      text = rw (append-nil context, many.len) refl;
      can = (can.0, can.1.0, can.1.1.0, can.1.1.1.0, can.1.1.1.1.0, can.1.1.1.1.1.0, can.1.1.1.1.1.1.0, can.1.1.1.1.1.1.1.0, rw many.len can.1.1.1.1.1.1.1.1.0, many.are_bytes);
    })
    (λ f fit. record {
      values = (f.event, (f.id, (f.sensor, (f.occurrences, (f.first, (f.last, (f.flag, (f.number, (length f.context, (f.context, tt))))))))));
      can = (fit.0, (fit.1, (fit.2, (fit.3, (fit.4, (fit.5, (fit.6, (fit.7, (fit.8, (record { len = refl; are_bytes = fit.9 }, tt))))))))));
      is = refl;
    })

fit_of : (row : Row) → IsKeepable row → Fit (fields_of row)
fit_of row keeps = grind (arith, keeps)

-- the fields of a record that was written are read
pub fields_again : (row : Row) (rest : List ℕ) → IsKeepable row → fields_at (row_bytes row ++ rest) ≡ Some (fields_of row, rest)
fields_again row rest keeps = fields_are_part.again (fields_of row) rest (fit_of row keeps)

-- bytes begin with one record
pub one_row : (row next : Row) (rest more : List ℕ) → IsKeepable row → IsKeepable next → row_bytes row ++ rest ≡ row_bytes next ++ more
    → (row ≡ next) × (rest ≡ more)
one_row row next rest more keeps keeps_next same =
    let is = one_answer (sym (fields_again row rest keeps) ∙ ap fields_at same ∙ fields_again next more keeps_next) in
    grind (arith, is)

-- ---- a record that is stored as its first and its last item

-- the records after a store
pub stored_rows : (item : Stored) (old new : Held) (items : List Stored) → item.count ≤ 65535 → Stands old items → Stands new (item ∷ items)
    → new.room ≡ old.room → new.rows ≡ (after_storing item old).rows
stored_rows item old new items small stands after room =
    grind (arith, after, stands_after item old items small stands, room)

-- where there is a place for one, a store begins a record
pub begins : (item : Stored) (row : Row) (old : Held) → event_of item ≡ row.key.event.0 → HasPlace old row
    → (after_storing item old).rows ≡ begun item ∷ old.rows
begins item row old same place = grind (arith, same, place, take_all old.room (begun item ∷ old.rows))

-- and there is one, unless there are as many as before
pub had_place : (item : Stored) (row : Row) (old : Held) (items : List Stored) → event_of item ≡ row.key.event.0 → Stands old items
    → (length (after_storing item old).rows ≡ length old.rows → ⊥) → HasPlace old row
had_place item row old items same stands more =
    grind (arith, common_steps, nat_tests, same, stands, length-take old.room (begun item ∷ old.rows), length-remove old.rows, position-Some (is_of (event_of item)) old.rows, more)

-- the first and the last item of a record, one after the other, make the record
pub record_made : (row : Row) (rows : List Row) (room : ℕ) → row.occurrences ≤ 65535
    → (after_storing (stored row.last row.key 0 row.stamp row.context)
    (record { room = room; rows = begun (stored row.first row.key row.occurrences row.stamp row.context) ∷ rows })).rows
    ≡ row ∷ rows
record_made row rows room few = grind (arith, nat_tests, common_steps, few)

-- ---- events that differ

-- no earlier record is of the event
pub apart : (rows : List Row) (row : Row) → position (is_of row.key.event.0) rows ≡ None → All (λ (one : Row). Differ one row) (reverse rows)
apart rows row alone =
    All-permutation (λ (one : Row). Differ one row) rows (reverse rows) (IsPermutation-reverse rows) (λ k d low.
    grind (arith, nat_tests, fails_before_first (is_of row.key.event.0) rows k d))

-- and where all differ, none is of a later record's event
pub alone : (rows more : List Row) (row : Row) → AllPairs Differ (reverse rows ++ row ∷ more) → position (is_of row.key.event.0) rows ≡ None
alone rows more row differ =
    let front = reverse rows in
    let all = All-permutation (λ (one : Row). Differ one row) front rows (IsPermutation-sym rows front (IsPermutation-reverse rows)) (λ k d low same.
    differ k (length front) d low (omega (arith, length-append front (row ∷ more)))
    (rw (get_or_append_left front (row ∷ more) d k low, get_or_at front row more d (length front) refl) same)) in
    let first = position_or_len (is_of row.key.event.0) rows in
    grind (arith, nat_tests, position-Some (is_of row.key.event.0) rows first row, all first row)

-- ---- the records of an image so far

-- an image that begins with these records goes on with others, which are what is after them
pub goes_on : (done rows : List Row) (rest : List ℕ) → All IsKeepable done → All IsKeepable rows → joined rows ≡ joined done ++ rest
    → (more : List Row) × (rows ≡ done ++ more) × All IsKeepable more × (rest ≡ joined more)
goes_on [] rows rest all keeps same = (rows, refl, keeps, sym same)
goes_on (row ∷ done) [] rest all keeps same = absurd cc
goes_on (row ∷ done) (next ∷ rows) rest all keeps same =
    let is = one_row next row (joined rows) (joined done ++ rest) (All-head IsKeepable next rows keeps) (All-head IsKeepable row done all)
    (same ∙ append_assoc (row_bytes row) (joined done) rest) in
    let goes = goes_on done rows rest (All-tail IsKeepable row done all) (All-tail IsKeepable next rows keeps) is.1 in
    (goes.0, grind (arith, is, goes), goes.2, goes.3)

-- one record more is read
pub read_more : (done : List Row) (row : Row) (image rest after : List ℕ) → image ≡ joined done ++ rest → rest ≡ row_bytes row ++ after
    → image ≡ joined (done ++ row ∷ []) ++ after
read_more done row image rest after read is = rw (read, is) (simp (flat_map-append, append-nil, append_assoc))

pub one_list : (a b : List Row) (image : List ℕ) → IsImageOf a image → IsImageOf b image → a ≡ b
one_list a b image of_a of_b =
    let goes = goes_on a b [] of_a.keepable.each of_b.keepable.each (sym of_b.whole ∙ of_a.whole ∙ sym (append-nil (joined a))) in
    elim goes.0 as (λ (more : List Row). b ≡ a ++ more → [] ≡ joined more → a ≡ b)
    [ [] ↦ λ whole none. sym (whole ∙ append-nil a) | row ∷ more ↦ λ whole some. absurd cc ] goes.1 goes.3
