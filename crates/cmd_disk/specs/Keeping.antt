-- What `keep` leaves on its disk: the event memory after each turn of a recording, saved one after another; and why
-- work on a disk ends.
use Rattle.std.specs.Prelude.{◌+◌, ◌<◌, ◌^◌, ◌≡◌, ◌≤◌, ◌⊎◌}
use Rattle.cmd_steps.specs.Names.{Damaged, Err, Failed, FailedAfter, IsTrue, List, Ok, Parts, Result, Rose, Row, Turn, WornAfter, [], length, suc, take, zero, ℕ, ⊤}
use Rattle.chain_plain.specs.Telling.{IsReady}
use Rattle.event_chain.specs.Chained.{chain_events, chain_kept}
use Rattle.event_chain.specs.Standing.{Stands}
use Rattle.ids_types.specs.declared.parcel.Plain.{Plain}
use Rattle.memory_disk.specs.Disks.{Run, Shown, State, LeavesOnly, LeavesSince, bytes_of}
use Rattle.memory_store.specs.Slots.{IsDamaged, KeepsRows, slot_at}
use Rattle.memory_store.specs.Stores.{StoreValue}
use Rattle.memory_store.specs.declared.store.BeginFault.{BeginFault}
use Rattle.cmd_disk.specs.declared.ended.Ended.{Ended}
use Rattle.cmd_disk.specs.declared.saving.Folding.{Folding}
use Rattle.cmd_files.specs.declared.stop.DiskStop.{DiskStop}
use Rattle.cmd_steps.specs.Words.{Stop, OnDisk, CannotWrite, NoMemory, rows_of}
use Rattle.memory_store.specs.declared.store.BeginFault.TheVariants as begin

-- ---- what is kept

-- a recording, and what the disk kept before: records, under a sequence
pub record Keeping : Type 0 where
  pub config : Parts
  pub turns : List Turn
  pub base : ℕ
  pub was : List Row

-- the records after so many turns; before the first save, those that were there
abbrev pub rows_behind : Keeping → ℕ → List Row
rows_behind keeping zero = keeping.was
rows_behind keeping (suc k) = rows_of keeping.config (take (suc k) keeping.turns)

-- a disk of these bytes keeps the records after so many turns, each save under the next sequence
abbrev pub KeepsBehind : Keeping → ℕ → List ℕ → Type 0
KeepsBehind keeping k bytes = KeepsRows bytes (keeping.base + k) (rows_behind keeping k)

-- it keeps those after some number of the turns
pub record KeepsSome (keeping : Keeping) (bytes : List ℕ) : Type 0 where
  pub count : ℕ
  pub within : count ≤ length keeping.turns
  pub keeps : KeepsBehind keeping count bytes

-- those after so many turns, or after one more
abbrev pub KeepsOneOf : Keeping → ℕ → List ℕ → Type 0
KeepsOneOf keeping saves bytes = KeepsBehind keeping saves bytes ⊎ KeepsBehind keeping (suc saves) bytes

-- what any crash after the end leaves: all turns are kept, or as many as were saved, and where no sequence was left
-- there was a turn more to save; where a save failed, maybe one more is kept, if all was synced before; and where the
-- work ended for another reason, so also for want of memory, what was kept before is kept still
abbrev pub KeptAtEnd : {A N : Type 0} → Type 0 → Keeping → Result A (Stop N) → State → Type 0
KeptAtEnd Synced keeping (Ok done) state = LeavesOnly (KeepsBehind keeping (length keeping.turns)) state
KeptAtEnd Synced keeping (Err (OnDisk (WornAfter saves))) state =
    (saves < length keeping.turns) × LeavesOnly (KeepsBehind keeping saves) state
KeptAtEnd Synced keeping (Err (OnDisk (FailedAfter saves))) state = Synced → LeavesOnly (KeepsOneOf keeping saves) state
KeptAtEnd Synced keeping (Err reason) state = Synced → LeavesOnly (KeepsBehind keeping 0) state

-- a crash at any moment leaves the records after some number of the turns, if all was synced before; and any crash
-- after the end leaves those that the end tells
pub record LeavesAs {A N : Type 0} (Synced : Type 0) (keeping : Keeping) (old new : Run) (end : Result A (Stop N)) : Type 0 where
  pub any_moment : Synced → LeavesSince old new (KeepsSome keeping)
  pub at_end : KeptAtEnd Synced keeping end new.now

-- so it is for whatever records the disk kept before
abbrev pub LeavesBehind : {A N : Type 0} → Parts → List Turn → Shown → Shown → Result A (Stop N) → Type 0
LeavesBehind config turns old new end =
    (base : ℕ) (was : List Row) → KeepsRows (bytes_of old) base was
    → LeavesAs (old.run.now.written ≡ []) (record { config = config; turns = turns; base = base; was = was }) old.run new.run end

-- ---- why work on a disk ends

-- the disk keeps some records
pub record HasKept (bytes : List ℕ) : Type 0 where
  pub sequence : ℕ
  pub rows : List Row
  pub keeps : KeepsRows bytes sequence rows

-- the disk keeps some records, and the last sequence comes so many saves after theirs
pub record IsWornAfter (saves : ℕ) (bytes : List ℕ) : Type 0 where
  pub kept : HasKept bytes
  pub last : kept.sequence + saves ≡ 2 ^ 62

-- a call of the disk failed; or its chosen slot is damaged, and then it has the bytes that it had before; or it has no
-- sequence left; a command that stopped before made no call of it
abbrev pub HasDiskCause : {A N D : Type 0} → (D → Shown) → D → D → Result A (Stop N) → Type 0
HasDiskCause shows old new (Ok done) = IsTrue (shows old).tells → HasKept (bytes_of (shows old))
HasDiskCause shows old new (Err (OnDisk Failed)) = Rose (shows old).faults (shows new).faults
HasDiskCause shows old new (Err (OnDisk (FailedAfter saves))) = Rose (shows old).faults (shows new).faults
HasDiskCause shows old new (Err (OnDisk (Damaged slot))) = IsTrue (shows old).tells →
    IsDamaged (slot_at 0 (bytes_of (shows old))) (slot_at 1 (bytes_of (shows old))) slot × (bytes_of (shows new) ≡ bytes_of (shows old))
HasDiskCause shows old new (Err (OnDisk (WornAfter saves))) = IsTrue (shows old).tells → IsWornAfter saves (bytes_of (shows old))
HasDiskCause shows old new (Err CannotWrite) = IsTrue (shows old).tells → HasKept (bytes_of (shows old))
HasDiskCause shows old new (Err NoMemory) = ⊤
HasDiskCause shows old new (Err reason) = new ≡ old

-- why keeping a history stops: on its disk, or for want of memory
abbrev pub StopsKeeping : {N : Type 0} → Stop N → Type 0
StopsKeeping (OnDisk Failed) = ⊥
StopsKeeping (OnDisk stop) = ⊤
StopsKeeping NoMemory = ⊤
StopsKeeping reason = ⊥

-- ---- the steps of `keep`

-- the bytes that a parcel of a recording lends
abbrev pub lent : Plain → List ℕ
lent parcel = parcel.0.now

-- the chain is that of this configuration and took no turn yet, and the desk has room for its turns
pub record IsNewFolding (config : Parts) (folding : Folding) : Type 0 where
  pub stands_for_none : Stands lent config [] folding.chain
  pub all_events : chain_events folding.chain ≡ length config.events
  pub nothing_kept : chain_kept folding.chain ≡ []
  pub ready : IsReady (length config.events) folding.desk

-- the end of work whose store could not be begun
abbrev pub not_begun : {T D : Type 0} → DiskStop → BeginFault D → Ended T D
not_begun why (begin.Failed disk) = record { end = Err (OnDisk why); disk = disk }
not_begun why (begin.Damaged slot disk) = record { end = Err (OnDisk (Damaged slot)); disk = disk }
not_begun why (begin.NoMemory disk) = record { end = Err NoMemory; disk = disk }

-- why saving ended: it takes no memory
abbrev pub HasSaveCause : {A N D : Type 0} → (D → Shown) → StoreValue D → D → Result A (Stop N) → Type 0
HasSaveCause shows store left (Ok done) = ⊤
HasSaveCause shows store left (Err (OnDisk (FailedAfter saves))) = Rose (shows store.disk).faults (shows left).faults
HasSaveCause shows store left (Err (OnDisk (WornAfter saves))) = store.sequence + saves ≡ 2 ^ 62
HasSaveCause shows store left (Err reason) = ⊥

-- what saving the records after each turn leaves of a store, whatever records it kept before
abbrev pub SavedAll : {A N D : Type 0} → (D → Shown) → Parts → List Turn → StoreValue D → D → Result A (Stop N) → Type 0
SavedAll shows config turns store left end =
    (was : List Row) → LeavesOnly (λ bytes. KeepsRows bytes store.sequence was) (shows store.disk).run.now
    → LeavesAs ⊤ (record { config = config; turns = turns; base = store.sequence; was = was })
    (shows store.disk).run (shows left).run end
