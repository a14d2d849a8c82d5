-- What changes in one slot, the writes of a save and a beginning make of the slots that a disk keeps; with the names
-- that the proofs stand on.
pub use Rattle.std.proofs.Common.{◌≡◌, ℕ, zero, suc, ◌+◌, ◌-◌, ◌*◌, ◌^◌, ◌<◌, ◌≤◌, ◌==◌, true, nat_lt, List, [], ◌∷◌, ◌++◌, length, take, drop, get_or, Option, Some, None, is_some, Ok, Err, Result, refl, sym, ap, ap₂, subst, ◌∙◌, inl, arith, rules, if◌then◌else◌, reverse}
pub use Rattle.std.proofs.lemmas.Grind.{common_steps, same_number_lists}
pub use Rattle.std.proofs.lemmas.List.{length-take, length-drop, get_or-take, get_or-drop, drop_at, take_all, get_or_at, take-append-le, drop-append-le, length-take-le, drop-drop, drop-take, places}
pub use Rattle.std.specs.Prelude.{⊤, OnOk, IsTrue}
pub use Rattle.memory_disk.specs.Disks.{Run, Shown, IsIn, ChangesIn, MayBeLeft, LeavesSince, Reads, Syncs, overwritten, part, bytes_of}
pub use Rattle.memory_disk.specs.declared.disk.DiskFailed.{DiskFailed}
pub use Rattle.memory_disk.specs.declared.disk.Span.{Span}
pub use Rattle.std.proofs.lemmas.Nat.{from_be_bytes-to_be_bytes_4, from_be_bytes-to_be_bytes_8}
pub use Rattle.std.specs.Int.{w32, w64, to_be_bytes}
pub use Rattle.ids_types.specs.MemoryRow.{Row}
pub use Rattle.memory_image.specs.Images.{AreKeepable, joined}
pub use Rattle.memory_image.proofs.ImageLemmas.{length-all}
pub use Rattle.memory_store.specs.Saving.{IsBody, IsPlaceOn, IsSet, KeepsEither, KeepsRowsOr, slot_for, KeepsSlot}
pub use Rattle.memory_store.specs.Slots.{Holds, KeepsRows, KeptIs, Slot, kept_slot, only, slot_in, gated, chosen, Found, Tells, by_number, slot_read}
pub use Rattle.memory_store.specs.declared.place.Place.{Place}
pub use Rattle.memory_disk.proofs.RunLemmas.{weaker, overwritten_changes, goes_on_with, no_call, settled_leaves, sync_leaves, write_leaves, read_leaves}
pub use Rattle.std.proofs.lemmas.Bool.Decides.{nat_tests}
pub use Rattle.std.proofs.lemmas.Result.{on_ok_weaker}
pub use Rattle.std.proofs.Math.Seq.{take-append-add}
unfoldable pub use Rattle.memory_store.specs.Slots.{slot_at}

-- ---- parts of bytes

-- a part stays where the range of what changes lies outside it
part_outside : (at count : ℕ) (span : Span) (old new : List ℕ) → ChangesIn span old new
    → ((i : ℕ) → at ≤ i → i < at + count → ¬ IsIn span i) → part at count new ≡ part at count old
part_outside at count span old new changes apart =
    same_number_lists (part at count new) (part at count old) (simp (length-take, length-drop, changes.size)) (λ i low.
    grind (arith, places, low, changes.others (at + i), apart (at + i)))

-- ---- the kept slot

-- by either of the two slots
pub kept_by : (slot : ℕ) (disk : List ℕ) → slot ≤ 1 → kept_slot disk ≡ chosen (slot_at slot disk) (slot_at (1 - slot) disk)
kept_by zero disk low = refl
kept_by (suc zero) disk low = grind (arith, nat_tests)
kept_by (suc (suc slot)) disk low = absurd (omega arith)

-- ---- changes in one slot

-- a gate that was open and is written is closed, or opens the same
gate_left : (now was : ℕ) (slot : Slot) (other : Option Slot) → is_some (if was == 1 then Some slot else None) ≡ true
    → chosen (if was == 1 then Some slot else None) other ≡ only other → chosen (if now == 1 then Some slot else None) other ≡ only other
gate_left now was slot other is_open kept = grind (arith, nat_tests, is_open, kept)

-- the gate of a slot
abbrev pub gate_span : ℕ → Span
gate_span slot = record { at = 270864 * slot; count = 1 }

-- so many bytes after it
abbrev pub body_span : ℕ → ℕ → Span
body_span slot count = record { at = 270864 * slot + 1; count = count }

module _ (slot : ℕ) (low : slot ≤ 1) where
  -- a change in one slot leaves the other
  other_stays : (span : Span) (old new : List ℕ) → 270864 * slot ≤ span.at → span.at + span.count ≤ 270864 * slot + 270861
      → ChangesIn span old new → slot_at (1 - slot) new ≡ slot_at (1 - slot) old
  unfolding slot_at
  other_stays span old new from to changes =
      let at = 270864 * (1 - slot) in
      let apart : (i : ℕ) → at ≤ i → i < at + 270861 → ¬ IsIn span i = λ i after before inside.
      omega (arith, low, from, to, after, before, inside.0, inside.1) in
      ap₂ gated (changes.others at (apart at (omega arith) (omega arith)))
      (part_outside (at + 1) 270860 span old new changes (λ i after before. apart i (omega (arith, after)) (omega (arith, before))))

  -- what stands after a gate that is written stays
  pub gate_set : (old new : List ℕ) → ChangesIn (gate_span slot) old new
      → IsSet slot (gated (get_or new (270864 * slot) 0) (part (270864 * slot + 1) 270860 old)) old new
  unfolding slot_at
  gate_set old new changes = record {
    own = ap (gated (get_or new (270864 * slot) 0)) (part_outside (270864 * slot + 1) 270860 (gate_span slot) old new changes
        (λ i from to inside. omega (arith, from, to, inside.0, inside.1)));
    other = other_stays (gate_span slot) old new (omega arith) (omega arith) changes;
  }

  -- a gate that is shut stays so where a body is written
  pub body_set : (count : ℕ) (old mid new : List ℕ) → count ≤ 270860 → IsSet slot None old mid → ChangesIn (body_span slot count) mid new
      → IsSet slot None old new
  unfolding slot_at
  body_set count old mid new few shut changes =
      record {
        own = rw (changes.others (270864 * slot) (λ inside. omega (arith, inside.0))) (grind (arith, nat_tests, shut.own));
        other = other_stays (body_span slot count) mid new (omega arith) (omega (arith, few)) changes ∙ shut.other;
      }

  -- ---- what is kept at each moment of a save

  module _ (old new : List ℕ) (kept : kept_slot old ≡ only (slot_at (1 - slot) old)) where
    -- shutting the gate of the slot that is not kept changes nothing
    pub kept_shut : IsSet slot None old new → kept_slot new ≡ kept_slot old
    kept_shut shut = rw (kept_by slot new low, shut.own, shut.other) (sym kept)

    -- nor does shutting it in part
    pub shutting_keeps : is_some (slot_at slot old) ≡ true → ChangesIn (gate_span slot) old new → kept_slot new ≡ kept_slot old
    unfolding slot_at
    shutting_keeps is_open changes =
        let set = gate_set old new changes in
        rw (kept_by slot new low, kept, set.own, set.other)
        (gate_left (get_or new (270864 * slot) 0) (get_or old (270864 * slot) 0) (slot_in (part (270864 * slot + 1) 270860 old)) _ is_open
        (rw (kept_by slot old low) at kept))

-- ---- what the three writes of a save leave, once they are done

-- ---- parts of bytes that were written

part-append : (at count : ℕ) (xs ys : List ℕ) → at + count ≤ length xs → part at count (xs ++ ys) ≡ part at count xs
part-append at count xs ys within =
    grind (arith, common_steps, drop-append-le at xs ys, take-append-le count (drop at xs) ys)

-- a slot is what its body says, whatever follows
slot_in-append : (body rest : List ℕ) → length body ≡ 12 + (slot_in body).size → slot_in (body ++ rest) ≡ slot_in body
slot_in-append body rest whole =
    grind (arith, take-append-le 8 body rest, part-append 8 4 body rest, part-append 12 (slot_in body).size body rest, whole)

-- ---- the steps of a save

-- a gate was written
pub gate_done : (slot : ℕ) → slot ≤ 1 → (byte : ℕ) (old new : List ℕ) → length old ≡ 541728 → new ≡ overwritten (270864 * slot) (byte ∷ []) old
    → IsSet slot (gated byte (part (270864 * slot + 1) 270860 old)) old new
gate_done slot low byte old new size is =
    let at = 270864 * slot in
    let changes = subst (ChangesIn (gate_span slot) old) (sym is) (overwritten_changes at (byte ∷ []) old (omega arith)) in
    grind (arith, places, is, gate_set slot low old new changes, get_or_at (take at old) byte (drop (at + 1) old) 0 at)

-- the slot that was saved is kept
pub saved_kept : (place : Place) (old new : List ℕ) (saved : Slot) → place.slot ≤ 1 → IsPlaceOn place old → IsSet place.slot (Some saved) old new
    → saved.sequence ≡ place.sequence + 1 → kept_slot new ≡ Holds saved
saved_kept place old new saved low next is newer =
    rw (kept_by place.slot new low, is.own, is.other) (grind (arith, nat_tests, next, newer))

module _ (place : Place) (low : place.slot ≤ 1) (body : List ℕ) (is_body : IsBody body (place.sequence + 1)) (old : Shown)
    (next : IsPlaceOn place (bytes_of old)) where
  -- a body stands after the gate, which is shut
  pub record HasBody (new : List ℕ) : Type 0 where
    pub shut : IsSet place.slot None (bytes_of old) new
    pub behind : slot_in (part (270864 * place.slot + 1) 270860 new) ≡ slot_in body

  pub body_done : (mid new : List ℕ) → length mid ≡ 541728 → IsSet place.slot None (bytes_of old) mid
      → new ≡ overwritten (270864 * place.slot + 1) body mid → HasBody new
  body_done mid new size shut is =
      let at = 270864 * place.slot + 1 in
      let changes = subst (ChangesIn (body_span place.slot (length body)) mid) (sym is) (overwritten_changes at body mid (omega (arith, is_body.few))) in
      let tail = drop (at + length body) mid in
      let left = 270860 - length body in
      let split : 270860 ≡ length body + left = omega (arith, is_body.few) in
      record {
        shut = body_set place.slot low (length body) (bytes_of old) mid new is_body.few shut changes;
        behind = rw (is, drop_at (take at mid) (body ++ tail) at (length-take-le at mid (omega arith)), split, take-append-add body tail left)
            (slot_in-append body (take left tail) is_body.whole);
      }

  -- the gate was opened
  pub open_done : (mid new : List ℕ) → length mid ≡ 541728 → HasBody mid → new ≡ overwritten (270864 * place.slot) (1 ∷ []) mid
      → IsSet place.slot (Some (slot_in body)) (bytes_of old) new
  open_done mid new size has is =
      let done = gate_done place.slot low 1 mid new size is in
      grind (arith, done, has)

  -- ---- what may be left at each moment of it

  -- while the gate is shut and the body is written
  pub body_leaves : (shut now : Shown) → IsSet place.slot None (bytes_of old) (bytes_of shut)
      → LeavesSince old.run shut.run (KeepsSlot (bytes_of old))
      → LeavesSince shut.run now.run (ChangesIn (body_span place.slot (length body)) (bytes_of shut))
      → LeavesSince old.run now.run (KeepsEither (slot_in body) (bytes_of old))
  body_leaves shut now is_shut first second =
      goes_on_with (KeepsEither (slot_in body) (bytes_of old)) old.run shut.run now.run (weaker _ _ _ _ (λ left same. inl same) first)
      (weaker _ _ _ _ (λ left changes. inl (kept_shut place.slot low (bytes_of old) left next.keeps
      (body_set place.slot low (length body) (bytes_of old) (bytes_of shut) left is_body.few is_shut changes))) second)

  -- while the gate is opened
  pub open_step : (mid left : List ℕ) → HasBody mid → ChangesIn (gate_span place.slot) mid left → KeepsEither (slot_in body) (bytes_of old) left
  open_step mid left has changes =
      let set = gate_set place.slot low mid left changes in
      let shut = kept_shut place.slot low (bytes_of old) left next.keeps in
      grind (arith, nat_tests, set, has, shut, saved_kept place (bytes_of old) left (slot_in body) low next, is_body.numbered)

-- ---- what a save and a beginning make of the slots

-- what a body says, and that it fits a slot
pub body_told : (body : List ℕ) (sequence : ℕ) (rows : List Row) → sequence < 2 ^ 64 → AreKeepable rows
    → body ≡ to_be_bytes w64 sequence ++ (to_be_bytes w32 (length (joined rows)) ++ joined rows)
    → IsBody body sequence × (slot_in body ≡ slot_for sequence rows)
body_told body sequence rows low all is =
    let few : length (joined rows) ≤ 270848 = omega (arith, length-all rows all.each, all.few) in
    let long : length body ≡ 12 + length (joined rows) = ap (λ bytes. length bytes) is ∙ omega arith in
    let size = from_be_bytes-to_be_bytes_4 (length (joined rows)) (omega (arith, few)) in
    let says : slot_in body ≡ slot_for sequence rows =
    rw (is, from_be_bytes-to_be_bytes_8 sequence low, size, take_all (length (joined rows)) (joined rows) (omega arith)) refl in
    (record { few = omega (arith, long, few); whole = long ∙ ap (λ (slot : Slot). 12 + slot.size) (sym says); numbered = ap (λ (slot : Slot). slot.sequence) says }, says)

-- a saved slot keeps these records
pub keeps_saved : (left : List ℕ) (sequence : ℕ) (rows : List Row) (saved : Slot) → kept_slot left ≡ Holds saved
    → saved ≡ slot_for sequence rows → 1 ≤ sequence → sequence ≤ 2 ^ 62 → AreKeepable rows → KeepsRows left sequence rows
keeps_saved left sequence rows saved kept is begun last all =
    rw (kept, is) (record { numbered = refl; begun = begun; last = last; size = refl; image = record { keepable = all; whole = refl } })

-- the next save goes to the other slot
pub place_after : (place : Place) (old new : List ℕ) (saved : Slot) → place.slot ≤ 1 → IsPlaceOn place old → IsSet place.slot (Some saved) old new
    → saved.sequence ≡ place.sequence + 1
    → IsPlaceOn (record { slot = 1 - place.slot; is_open = nat_lt 0 place.sequence; sequence = place.sequence + 1 }) new
place_after place old new saved low next is newer =
    let own : slot_at (1 - (1 - place.slot)) new ≡ Some saved = ap (λ slot. slot_at slot new) (omega arith) ∙ is.own in
    grind (arith, nat_tests, own, is, next, newer, saved_kept place old new saved low next is newer)

-- so at each moment of a save these records are kept, or those
pub either_rows : (old new : Shown) (saved : Slot) (base : ℕ) (was rows : List Row) → saved ≡ slot_for (base + 1) rows → AreKeepable rows
    → base < 2 ^ 62 → KeepsRows (bytes_of old) base was → LeavesSince old.run new.run (KeepsEither saved (bytes_of old))
    → LeavesSince old.run new.run (KeepsRowsOr base was (base + 1) rows)
either_rows old new saved base was rows says all low had keeps =
    weaker (KeepsEither saved (bytes_of old)) (KeepsRowsOr base was (base + 1) rows) old.run new.run
    (λ left either. grind (arith, either, had, keeps_saved left (base + 1) rows saved, says, all)) keeps

-- ---- a beginning

-- a sync and a read leave what might be left before them
pub synced_read : (old mid new : Run) (result : Result ⊤ DiskFailed) (at : ℕ) (out : List ℕ) (result' : Result ⊤ DiskFailed) → Syncs old mid result
    → Reads mid new at out result' → LeavesSince old new (MayBeLeft old.now)
synced_read old mid new result at out result' syncs reads =
    let first = sync_leaves (MayBeLeft old.now) old mid result (λ bytes may. may) syncs in
    goes_on_with _ old mid new first (read_leaves _ mid new at out result' first.now reads)

-- what was read stands there
pub read_gives : (old new : Run) (at count : ℕ) (out bytes : List ℕ) (result : Result ⊤ DiskFailed) → Reads old new at out result
    → old.now.contents ≡ bytes → length out ≡ count → OnOk result (out ≡ part at count bytes)
read_gives old new at count out bytes result reads same size = grind (arith, reads, same, size)

pub ruleset encoding = (length-all, body_told)

-- ---- the slots of a disk, as they are found in the bytes that are read

-- a slot's bytes are that slot
pub slot_read_at : (slot : ℕ) (disk : List ℕ) → slot_read (part (270864 * slot) 270861 disk) ≡ slot_at slot disk
unfolding slot_at
slot_read_at slot disk =
    let at = 270864 * slot in
    ap₂ gated (get_or-take 270861 (drop at disk) 0 0 (omega arith) ∙ get_or-drop at disk 0 0 ∙ ap (λ n. get_or disk n 0) (omega arith))
    (drop-take 1 270860 (drop at disk) ∙ ap (λ bytes. take 270860 bytes) (drop-drop 1 at disk))

at_number : (number : ℕ) (disk : List ℕ) → number ≤ 1 → by_number number (slot_at 0 disk) (slot_at 1 disk) ≡ slot_at number disk
at_number number disk low = grind (arith, low)

-- what was found in the bytes that were read
pub tells_on : (disk first second : List ℕ) (rows : List Row) (result : Result Place ℕ) → first ≡ part 0 270861 disk → second ≡ part 270864 270861 disk
    → Tells (slot_read first) (slot_read second) rows result → Tells (slot_at 0 disk) (slot_at 1 disk) rows result
tells_on disk first second rows result is is' tells = rw (← slot_read_at 0 disk, ← slot_read_at 1 disk, ← is, ← is') tells

-- so the place and the records are found on the disk, which stayed as it was
pub found_on : (disk now first second : List ℕ) (place : Place) (rows : List Row) → first ≡ part 0 270861 disk → second ≡ part 270864 270861 disk
    → now ≡ disk → Found (slot_read first) (slot_read second) place rows → IsPlaceOn place now × KeepsRows now place.sequence rows
found_on disk now first second place rows is is' same found =
    let on : Found (slot_at 0 disk) (slot_at 1 disk) place rows = tells_on disk first second rows (Ok place) is is' found in
    rw same (rw (← at_number place.slot disk on.low, ← at_number (1 - place.slot) disk (omega (arith, on.low))) on.next, on.rows)
