-- What a run over a disk does, by cases on its command. The disk is the one that is handed in, and the one that is
-- handed back.
-- Source: docs/COMMANDS.md.
use Rattle.std.specs.Prelude.{◌≡◌, ◌⊎◌}
use Rattle.cmd_steps.specs.Names.{Command, Err, Files, IsTrue, KeepFiles, List, Misused, None, Ok, Option, PairFiles, RanCommand, Result, Row, Some, StandsInPart, Vec, codes, number_text, false, keep, length, recall, ℕ}
use Rattle.memory_disk.specs.Disks.{Shown, LeavesSince, MayBeLeft, bytes_of}
use Rattle.memory_store.specs.Slots.{KeepsRows}
use Rattle.cmd_disk.specs.Keeping.{HasDiskCause, LeavesBehind}
use Rattle.cmd_steps.specs.Words.{CannotWrite, Global, Heard, NoMemory, Recorded, Shelved, Stop, WriteFault, memory_text, over, recorded_in, stop_of_write}

-- what crashes leave of the disk, where the files are told and have a recording
abbrev pub LeavesRecorded : {A N D : Type 0} → (D → Shown) → KeepFiles → Files → D → D → Result A (Stop N) → Type 0
LeavesRecorded shows names files disk left end =
    IsTrue (shows disk).tells → (own : Recorded) → over (recorded_in names.from) files ≡ Ok own
    → LeavesBehind own.config own.told.turns (shows disk) (shows left) end

-- a run answers how its work ended; of work that stopped it may answer that memory was wanted to tell why
abbrev pub TellsEnd : (end answer : Result (List ℕ) (Stop (List ℕ))) → Type 0
TellsEnd (Ok said) answer = answer ≡ Ok said
TellsEnd (Err reason) answer = (answer ≡ Err reason) ⊎ (answer ≡ Err NoMemory)

-- what a run of `keep` does
pub record Keeps {D : Type 0} (shows : D → Shown) (names : KeepFiles) (status : ℕ) (old new : Shelved) (before after : Heard)
    (disk left : D) : Type 0 where
  pub ran : RanCommand (keep names) status old new before after
  pub end : Result (List ℕ) (Stop (List ℕ))
  pub tells : TellsEnd end ran.answer
  pub cause : HasDiskCause shows disk left end
  pub leaves : IsTrue old.tells → LeavesRecorded shows names old.files disk left end

-- the file holds the text of the records that the disk keeps, and the line counts them
pub record Recalled (bytes target said : List ℕ) (new : Files) : Type 0 where
  pub sequence : ℕ
  pub rows : List Row
  pub keeps : KeepsRows bytes sequence rows
  pub written : new target ≡ Some (memory_text rows)
  pub text : said ≡ number_text (codes "records ") (length rows)

-- the file holds a first part of the text of the records that the disk keeps, or is as before
pub record RecalledInPart (bytes target : List ℕ) (old new : Files) : Type 0 where
  pub sequence : ℕ
  pub rows : List Row
  pub keeps : KeepsRows bytes sequence rows
  pub part : StandsInPart old new (record { name = target; bytes = memory_text rows })

-- the whole text is there where the work ended well, and a part of it at most where it was not written, or memory was
-- wanted; for another reason the file is as before
abbrev pub RecalledBy : {N : Type 0} → (bytes target : List ℕ) → (old new : Files) → Result (List ℕ) (Stop N) → Type 0
RecalledBy bytes target old new (Ok said) = Recalled bytes target said new
RecalledBy bytes target old new (Err CannotWrite) = RecalledInPart bytes target old new
RecalledBy bytes target old new (Err NoMemory) = (new target ≡ old target) ⊎ RecalledInPart bytes target old new
RecalledBy bytes target old new (Err reason) = new target ≡ old target

-- what a run of `recall` does: it writes nothing on the disk
pub record Recalls {D : Type 0} (shows : D → Shown) (names : PairFiles) (status : ℕ) (old new : Shelved)
    (before after : Heard) (disk left : D) : Type 0 where
  pub ran : RanCommand (recall names) status old new before after
  pub end : Result (List ℕ) (Stop (List ℕ))
  pub tells : TellsEnd end ran.answer
  pub cause : HasDiskCause shows disk left end
  pub recalled : IsTrue old.tells → IsTrue (shows disk).tells
      → RecalledBy (bytes_of (shows disk)) names.target old.files new.files end
  pub same : IsTrue (shows disk).tells → bytes_of (shows left) ≡ bytes_of (shows disk)
  pub any_moment : IsTrue (shows disk).tells
      → LeavesSince (shows disk).run (shows left).run (MayBeLeft (shows disk).run.now)

-- the words are no command over a disk: the usage was put, and neither the shelf nor the disk was touched
pub record MisusedDisk {D : Type 0} (status : ℕ) (old new : Shelved) (before after : Heard) (disk left : D) : Type 0 where
  pub misused : Misused false status old new before after
  pub untouched : left ≡ disk

-- what a run does, where the words give this command or none
abbrev pub RunsOnDisk : {D : Type 0} → (D → Shown) → Option Command → ℕ → Shelved → Shelved → Heard → Heard → D → D → Type 0
RunsOnDisk shows None status old new before after disk left = MisusedDisk status old new before after disk left
RunsOnDisk shows (Some (keep names)) status old new before after disk left =
    Keeps shows names status old new before after disk left
RunsOnDisk shows (Some (recall names)) status old new before after disk left =
    Recalls shows names status old new before after disk left
RunsOnDisk shows (Some other) status old new before after disk left = ⊥

-- the end of a run that wrote what it had to, or could not
abbrev pub written_end : Result (Vec ℕ Global) WriteFault → Result (List ℕ) (Stop (List ℕ))
written_end (Ok said) = Ok said.items
written_end (Err fault) = Err (stop_of_write fault)
