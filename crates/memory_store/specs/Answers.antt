-- What beginning a store and saving in it answer.
use Rattle.std.specs.Prelude.{◌≡◌, ◌+◌, ◌^◌, ◌<◌, List, IsTrue, Result, Ok, Err}
use Rattle.ids_outside.specs.Faults.{Rose}
use Rattle.ids_types.specs.MemoryRow.{Row}
use Rattle.memory_disk.specs.Disks.{Shown, bytes_of}
use Rattle.memory_store.specs.Slots.{IsDamaged, slot_at}
use Rattle.memory_store.specs.Stores.{StoreValue}
use Rattle.memory_store.specs.declared.store.BeginFault.{BeginFault}
use Rattle.memory_store.specs.declared.store.BeginFault.TheVariants as begin
use Rattle.memory_store.specs.declared.store.SaveFault.{SaveFault}
use Rattle.memory_store.specs.declared.store.SaveFault.TheVariants as save

-- the disk that a beginning hands back
abbrev pub begun_disk : {D : Type 0} → Result (StoreValue D × List Row) (BeginFault D) → D
begun_disk (Ok begun) = begun.0.disk
begun_disk (Err (begin.Failed disk)) = disk
begun_disk (Err (begin.Damaged slot disk)) = disk
begun_disk (Err (begin.NoMemory disk)) = disk

-- the disk that a save hands back
abbrev pub saved_disk : {D : Type 0} → Result (StoreValue D) (SaveFault D) → D
saved_disk (Ok store) = store.disk
saved_disk (Err (save.Failed disk)) = disk
saved_disk (Err (save.Worn store)) = store.disk

-- a beginning fails where a call of the disk did, or the chosen slot is damaged; it wants memory before all calls
abbrev pub BeginAnswers : {D : Type 0} → (D → Shown) → D → Result (StoreValue D × List Row) (BeginFault D) → Type 0
BeginAnswers shows old (Ok begun) = (shows begun.0.disk).faults ≡ (shows old).faults
BeginAnswers shows old (Err (begin.Failed disk)) = Rose (shows old).faults (shows disk).faults
BeginAnswers shows old (Err (begin.Damaged slot disk)) = IsTrue (shows old).tells →
    IsDamaged (slot_at 0 (bytes_of (shows old))) (slot_at 1 (bytes_of (shows old))) slot
BeginAnswers shows old (Err (begin.NoMemory disk)) = disk ≡ old

-- a save has the next sequence, or failed where a call of the disk did; at the last sequence it makes no call
abbrev pub SaveAnswers : {D : Type 0} → (D → Shown) → StoreValue D → Result (StoreValue D) (SaveFault D) → Type 0
SaveAnswers shows old (Ok store) =
    (old.sequence < 2 ^ 62) × (store.sequence ≡ old.sequence + 1) × ((shows store.disk).faults ≡ (shows old.disk).faults)
SaveAnswers shows old (Err (save.Failed disk)) = (old.sequence < 2 ^ 62) × Rose (shows old.disk).faults (shows disk).faults
SaveAnswers shows old (Err (save.Worn store)) = (old.sequence ≡ 2 ^ 62) × (store ≡ old)
