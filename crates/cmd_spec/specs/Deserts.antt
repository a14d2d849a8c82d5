-- What the input files deserve decides the answer of a run.
use Rattle.std.specs.Prelude.{◌≡◌, ◌⊎◌}
use Rattle.cmd_spec.specs.Names.{AreWritten, Command, DiskStop, Failed, Heard, List, MissesOne, OneFails, Refusal, Shelved, Work, disk_status, written_by, ℕ, ⊤}
use Rattle.ids_frame.specs.Bytes.{AreBytes}
use Rattle.cmd_spec.specs.Keeping.{MayStopOnDisk}
use Rattle.cmd_spec.specs.Judge.{Task, Does, Refuses, seals, unseals, packs}
use Rattle.cmd_spec.specs.Run.{WasUnread}

-- a read failed, and all that is read before it served
pub record FailedBefore (command : Command) (old new : Shelved) : Type 0 where
  pub name : List ℕ
  pub unread : WasUnread command name old new

-- a run ended with this status, or for want of memory, or at the put of its text, or at an earlier read
abbrev pub EndsWith : ℕ → Command → ℕ → Shelved → Shelved → Heard → Heard → Type 0
EndsWith wanted command status old new before after =
    (status ≡ wanted)
    ⊎ ((status ≡ 8)
    ⊎ (((status ≡ 7) × MissesOne before.misses after.misses) ⊎ FailedBefore command old new))

-- the work of the command on its disk stopped, with this status
pub record EndsOnDisk (command : Command) (status : ℕ) : Type 0 where
  pub stop : DiskStop
  pub may : MayStopOnDisk command stop
  pub is : status ≡ disk_status stop

-- or where a file was written, or on a disk
abbrev pub EndsOrFails : ℕ → Command → ℕ → Shelved → Shelved → Heard → Heard → Type 0
EndsOrFails wanted command status old new before after =
    EndsWith wanted command status old new before after
    ⊎ (((status ≡ 7) × OneFails (written_by command) old.faults new.faults Failed) ⊎ EndsOnDisk command status)

-- work that the task asks for was done: each of its files is there, whole
pub record DidWork (task : Task) (new : Shelved) : Type 0 where
  pub work : Work
  pub is_work : Does task work
  pub written : AreWritten work.outputs new.files

-- the task can be done
abbrev pub CanBeDone : Task → Type 0
CanBeDone task = (refusal : Refusal (List ℕ)) → Refuses task refusal → ⊥

-- what the task is made of are bytes
abbrev pub IsOfBytes : Task → Type 0
IsOfBytes (seals target key start bytes) = AreBytes bytes
IsOfBytes (unseals target key start bytes) = AreBytes bytes
IsOfBytes (packs target size bytes) = AreBytes bytes
IsOfBytes other = ⊤
