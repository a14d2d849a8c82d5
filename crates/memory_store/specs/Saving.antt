-- What a save needs of a disk, and what it leaves there.
use Rattle.std.specs.Prelude.{◌≡◌, ◌⊎◌, ◌+◌, ◌-◌, ◌≤◌, ℕ, List, Option, length}
use Rattle.ids_types.specs.MemoryRow.{Row}
use Rattle.memory_image.specs.Images.{joined}
use Rattle.memory_disk.specs.Disks.{Shown, IsSettled, bytes_of}
use Rattle.memory_store.specs.Slots.{Holds, IsNext, KeepsRows, Slot, kept_slot, slot_at, slot_in}
use Rattle.memory_store.specs.declared.place.Place.{Place}

-- a save may go to this place
abbrev pub IsPlaceOn : Place → List ℕ → Type 0
IsPlaceOn place disk =
    IsNext (slot_at place.slot disk) (slot_at (1 - place.slot) disk) (kept_slot disk) place.is_open place.sequence

-- the disk is ready for a save to this place
pub record IsReady (place : Place) (shown : Shown) : Type 0 where
  pub settled : IsSettled shown
  pub next : IsPlaceOn place (bytes_of shown)

-- these bytes are a whole slot of this sequence
pub record IsBody (body : List ℕ) (sequence : ℕ) : Type 0 where
  pub few : length body ≤ 270860
  pub whole : length body ≡ 12 + (slot_in body).size
  pub numbered : (slot_in body).sequence ≡ sequence

-- the slot of this sequence and these records
abbrev pub slot_for : ℕ → List Row → Slot
slot_for sequence rows = record { sequence = sequence; size = length (joined rows); image = joined rows }

-- the same slot is kept
abbrev pub KeepsSlot : List ℕ → List ℕ → Type 0
KeepsSlot old left = kept_slot left ≡ kept_slot old

-- the same slot is kept, or the saved one
abbrev pub KeepsEither : Slot → List ℕ → List ℕ → Type 0
KeepsEither saved old left = KeepsSlot old left ⊎ (kept_slot left ≡ Holds saved)

-- the slot of this number was set to this, or shut, and the other one stays
pub record IsSet (slot : ℕ) (held : Option Slot) (old new : List ℕ) : Type 0 where
  pub own : slot_at slot new ≡ held
  pub other : slot_at (1 - slot) new ≡ slot_at (1 - slot) old

-- a crash leaves the records from before, or those that are saved
abbrev pub KeepsRowsOr : ℕ → List Row → ℕ → List Row → List ℕ → Type 0
KeepsRowsOr base was sequence rows left = KeepsRows left base was ⊎ KeepsRows left sequence rows
