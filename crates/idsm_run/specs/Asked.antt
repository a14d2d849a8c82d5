-- Which run the words ask for, and what it does.
use Rattle.std.specs.Prelude.{if◌then◌else◌, ◌||◌, ◌∷◌, ◌≡◌, ◌⊎◌}
use Rattle.cmd_steps.specs.Names.{Bor, Heard, List, None, Option, Result, Shelved, Some, String, Vec, [], codes, string_bytes, ℕ}
use Rattle.idsm_run.specs.Replayed.{Replays}
use Rattle.memory_disk.specs.Disks.{Shown}
use Rattle.cmd_disk.specs.Runs.{RunsOnDisk}
use Rattle.cmd_messages.specs.Reported.{Reports}
use Rattle.cmd_steps.specs.Words.{Command, EndsAs, Global, Puts, Ran, Stop, are_read_by_clap, asks, command_of, disk_of, plain_end, plain_of, replay_of, report_of}

-- a run over a disk, of a replay, of a report, or of a command that needs files alone
pub data TopCall : Type 0 where
  on_disk : TopCall
  replays : TopCall
  reports : TopCall
  plain : TopCall

-- the one that the first word asks for
abbrev pub top_call : List (List ℕ) → TopCall
top_call words =
    if asks (codes "keep") words || asks (codes "recall") words then on_disk
    else if asks (codes "replay") words then replays
    else if asks (codes "report") words then reports
    else plain

-- the second word, which names the disk; empty where there is none
abbrev pub name_of_disk : List (List ℕ) → List ℕ
name_of_disk (word ∷ name ∷ names) = name
name_of_disk words = []

-- a disk was made of the name, and a run over it
pub record RunsOnMade {D : Type 0} (Makes : String Global → D → Type 0) (shows : D → Shown) (words : List (List ℕ)) (status : ℕ)
    (old new : Shelved) (before after : Heard) : Type 0 where
  pub name : String Global
  pub is_named : string_bytes name ≡ name_of_disk words
  pub disk : D
  pub makes : Makes name disk
  pub left : D
  pub runs : RunsOnDisk shows (disk_of (command_of words)) status old new before after disk left

-- memory for the name was refused: that was put, and no file was touched
pub record WantsName (status : ℕ) (old new : Shelved) (before after : Heard) : Type 0 where
  pub puts : Puts (codes "no memory\n") 8 status before after
  pub shelf : new ≡ old

-- what a run does that answers something beside its status, of which nothing more is told
pub record RunsApart {M : Type 0} (Runs : Option M → ℕ → Shelved → Shelved → Heard → Heard → Type 0) (status : ℕ) (old new : Shelved)
    (before after : Heard) : Type 0 where
  pub answer : Option M
  pub runs : Runs answer status old new before after

-- what such a run does, over a disk that is made of its name
abbrev pub RunsAs : {D : Type 0} → (String Global → D → Type 0) → (D → Shown) → TopCall → List (List ℕ) → ℕ → Shelved → Shelved
    → Heard → Heard → Type 0
RunsAs Makes shows on_disk words status old new before after =
    RunsOnMade Makes shows words status old new before after ⊎ WantsName status old new before after
RunsAs Makes shows replays words status old new before after = RunsApart (Replays (replay_of (command_of words))) status old new before after
RunsAs Makes shows reports words status old new before after = RunsApart (Reports (report_of (command_of words))) status old new before after
RunsAs Makes shows plain words status old new before after =
    Ran (plain_of (command_of words)) (are_read_by_clap words) status old new before after

-- what a command does that starts no thread and needs no disk: it ended so; where there is no such command, nothing was done
abbrev pub Performs : Option Command → Option (Result (Vec ℕ Global) (Stop (Bor (List ℕ)))) → Shelved → Shelved → Type 0
Performs None end old new = (end ≡ None) × (new ≡ old)
Performs (Some command) None old new = ⊥
Performs (Some command) (Some end) old new = EndsAs command (plain_end end) old new
