-- How a run over a disk ends that has what it needs, and in which no call fails: it is done, unless there is too little
-- memory or, for a `keep`, no sequence for its next save.
use Rattle.std.specs.Prelude.{◌+◌, ◌<◌, ◌^◌, ◌≡◌, ◌⊎◌}
use Rattle.cmd_steps.specs.Names.{Err, IsTrue, KeepFiles, List, Ok, PairFiles, Result, Rose, WornAfter, length, ℕ}
use Rattle.memory_disk.specs.Disks.{Shown, bytes_of}
use Rattle.cmd_disk.specs.Keeping.{HasKept}
use Rattle.cmd_disk.specs.Runs.{Keeps, Recalls}
use Rattle.cmd_steps.specs.Words.{Heard, Recorded, Shelved, Stop, OnDisk, Turn, over, recorded_in}

-- no call of the shelf, of the sink or of the disk failed: the count of each is below its greatest value, and is no
-- greater than before
pub record NoneFailed (old new : Shelved) (before after : Heard) (disk left : Shown) : Type 0 where
  pub by_shelf : ¬ Rose old.faults.count new.faults.count
  pub by_sink : ¬ Rose before.misses.failed after.misses.failed
  pub by_disk : ¬ Rose disk.faults left.faults

-- no sequence was left for the next save, and the answer tells after how many saves: they are fewer than the turns, and
-- the last sequence comes so many after the one from before
pub record EndsWorn (turns : List Turn) (sequence : ℕ) (answer : Result (List ℕ) (Stop (List ℕ))) (status : ℕ) : Type 0 where
  pub is : status ≡ 15
  pub saves : ℕ
  pub told : answer ≡ Err (OnDisk (WornAfter saves))
  pub fewer : saves < length turns
  pub last : sequence + saves ≡ 2 ^ 62

-- a `keep` whose shelf and disk tell what they hold, whose files have a recording and whose disk keeps some records ends
-- with 0, or with 8 for want of memory, or with 15 after fewer saves than there are turns, if no call failed
abbrev pub CompletesKeep : {D : Type 0} → (D → Shown) → Type 0
CompletesKeep {D} shows =
    (names : KeepFiles) (status : ℕ) (old new : Shelved) (before after : Heard) (disk left : D) (own : Recorded)
    → (run : Keeps shows names status old new before after disk left)
    → IsTrue old.tells → over (recorded_in names.from) old.files ≡ Ok own
    → IsTrue (shows disk).tells → (kept : HasKept (bytes_of (shows disk)))
    → NoneFailed old new before after (shows disk) (shows left)
    → (status ≡ 0) ⊎ ((status ≡ 8) ⊎ EndsWorn own.told.turns kept.sequence run.ran.answer status)

-- a `recall` whose shelf and disk tell what they hold and whose disk keeps some records ends with 0, or with 8 for want
-- of memory, if no call failed
abbrev pub CompletesRecall : {D : Type 0} → (D → Shown) → Type 0
CompletesRecall {D} shows =
    (names : PairFiles) (status : ℕ) (old new : Shelved) (before after : Heard) (disk left : D)
    → Recalls shows names status old new before after disk left
    → IsTrue old.tells → IsTrue (shows disk).tells → HasKept (bytes_of (shows disk))
    → NoneFailed old new before after (shows disk) (shows left)
    → (status ≡ 0) ⊎ (status ≡ 8)
