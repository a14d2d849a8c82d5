-- The two slots of a disk, and which records they keep. A slot is a gate of one byte, a sequence of eight, the
-- image's length of four, and the image.
use Rattle.std.specs.Prelude.{◌≡◌, ℕ, ◌+◌, ◌*◌, ◌^◌, ◌≤◌, ◌==◌, [], nat_lt, Bool, List, length, slice_index, take, Option, Some, None, IfSome, is_some, if◌then◌else◌, ◌-◌, Result, Ok, Err, drop}
use Rattle.std.specs.Int.{w32, w64, from_be_bytes}
use Rattle.ids_types.specs.MemoryRow.{Row}
use Rattle.memory_disk.specs.Disks.{part}
use Rattle.memory_image.specs.Images.{IsImageOf}
use Rattle.memory_store.specs.declared.place.Place.{Place}
use Rattle.memory_store.specs.declared.slots.Slot.{Slot as Lent}

-- what stands after an open gate; the image ends where the slot does
pub record Slot : Type 0 where
  pub sequence : ℕ
  pub size : ℕ
  pub image : List ℕ

-- the slot that stands in these bytes
abbrev pub slot_in : List ℕ → Slot
slot_in bytes = record {
  sequence = from_be_bytes w64 (take 8 bytes);
  size = from_be_bytes w32 (part 8 4 bytes);
  image = part 12 (from_be_bytes w32 (part 8 4 bytes)) bytes;
}

-- the slot after a gate, if it is open: 1
abbrev pub gated : ℕ → List ℕ → Option Slot
gated gate bytes = if gate == 1 then Some (slot_in bytes) else None

-- the slot of this number on a disk, if it is open
unfoldable pub slot_at : ℕ → List ℕ → Option Slot
slot_at slot disk = gated (slice_index disk (270864 * slot)) (part (270864 * slot + 1) 270860 disk)

-- which slot is kept: none, this one, or neither of two with one sequence
pub data Kept : Type 0 where
  Nothing : Kept
  Holds : Slot → Kept
  Tied : Kept

-- the only slot that may be open
abbrev pub only : Option Slot → Kept
only None = Nothing
only (Some slot) = Holds slot

-- the open slot of the greater sequence
abbrev pub chosen : Option Slot → Option Slot → Kept
chosen None second = only second
chosen (Some first) None = Holds first
chosen (Some first) (Some second) =
    if nat_lt first.sequence second.sequence
    then Holds second
    else if nat_lt second.sequence first.sequence then Holds first else Tied

-- the slot that a disk keeps
abbrev pub kept_slot : List ℕ → Kept
kept_slot disk = chosen (slot_at 0 disk) (slot_at 1 disk)

-- the number of that slot, where one is open
abbrev pub chosen_number : Option Slot → Option Slot → ℕ
chosen_number (Some first) None = 0
chosen_number (Some first) (Some second) = if nat_lt second.sequence first.sequence then 0 else 1
chosen_number None second = 1

-- the slot has this sequence, and the image of these records
pub record IsOf (slot : Slot) (sequence : ℕ) (rows : List Row) : Type 0 where
  pub numbered : slot.sequence ≡ sequence
  pub begun : 1 ≤ sequence
  pub last : sequence ≤ 2 ^ 62
  pub size : length slot.image ≡ slot.size
  pub image : IsImageOf rows slot.image

-- this sequence and these records are kept; none, with 0, where no slot is open
abbrev pub KeptIs : Kept → ℕ → List Row → Type 0
KeptIs Nothing sequence rows = (sequence ≡ 0) × (rows ≡ [])
KeptIs (Holds slot) sequence rows = IsOf slot sequence rows
KeptIs Tied sequence rows = ⊥

-- a disk keeps these records, saved under this sequence
abbrev pub KeepsRows : List ℕ → ℕ → List Row → Type 0
KeepsRows disk sequence rows = KeptIs (kept_slot disk) sequence rows

-- no records are kept for what is in the chosen slot, which has this number
pub record IsDamaged (first second : Option Slot) (number : ℕ) : Type 0 where
  pub none : (sequence : ℕ) (rows : List Row) → KeptIs (chosen first second) sequence rows → ⊥
  pub is_chosen : number ≡ chosen_number first second

-- a save may go to the own slot, which is open or not: the other one is kept where it is open, under this sequence,
-- which is 0 where it is not
pub record IsNext (own other : Option Slot) (kept : Kept) (is_open : Bool) (sequence : ℕ) : Type 0 where
  pub gate : is_some own ≡ is_open
  pub begun : is_some other ≡ nat_lt 0 sequence
  pub numbered : IfSome other (λ slot. slot.sequence ≡ sequence)
  pub keeps : kept ≡ only other

-- ---- which slot is found kept on a disk whose slots were read

-- a slot without where its image lies in memory
abbrev pub plain_slot : Lent → Slot
plain_slot slot = record { sequence = slot.sequence; size = slot.size; image = slot.image.now }

-- the slot in bytes that begin with its gate
abbrev pub slot_read : List ℕ → Option Slot
slot_read bytes = gated (slice_index bytes 0) (drop 1 bytes)

-- one of two, by its number
abbrev pub by_number : {A : Type 0} → ℕ → A → A → A
by_number number first second = if number == 0 then first else second

-- the slot of this number is the chosen one, and the other one is open or not
pub record IsChosen (first second : Option Slot) (number : ℕ) (is_open : Bool) (kept : Slot) : Type 0 where
  pub holds : chosen first second ≡ Holds kept
  pub is : number ≡ chosen_number first second
  pub own : by_number number first second ≡ Some kept
  pub other : is_some (by_number (1 - number) first second) ≡ is_open

-- these records are kept, and the next save goes to this place
pub record Found (first second : Option Slot) (place : Place) (kept : List Row) : Type 0 where
  pub low : place.slot ≤ 1
  pub few : place.sequence ≤ 2 ^ 62
  pub rows : KeptIs (chosen first second) place.sequence kept
  pub next : IsNext (by_number place.slot first second) (by_number (1 - place.slot) first second)
      (chosen first second) place.is_open place.sequence

-- the place and the records are found, or the chosen slot is damaged
abbrev pub Tells : Option Slot → Option Slot → List Row → Result Place ℕ → Type 0
Tells first second rows (Ok place) = Found first second place rows
Tells first second rows (Err slot) = IsDamaged first second slot
