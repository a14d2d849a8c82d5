-- What a run does, by cases on its command: it did its command's work, or stopped, each with its status
-- and its text.
-- Source: docs/COMMANDS.md.
use Rattle.std.specs.Prelude.{◌≡◌, ◌⊎◌}
use Rattle.cmd_spec.specs.Names.{AreWritten, BadSource, Bool, CannotRead, CannotWrite, Comes, Command, Contains, CountsFault, DiskStop, Err, Failed, Files, Heard, Instance, IsTrue, List, NoMemory, None, Ok, OnDisk, OneFails, Option, Read, Refusal, Refused, Result, Rose, SameBut, SameFiles, Shelved, Some, StandUpTo, Stop, TooLong, Work, [], answer_status, answer_text, bytes_eq, configuration, false, list_any, migrate, option_map, read_by, row_of, true, usage, word_of, written_by, ℕ, ⊤}
use Rattle.cmd_spec.specs.Judge.{Task, Does, Refuses, judge, reading_of}
use Rattle.cmd_spec.specs.Keeping.{MayStopOnDisk}
use Rattle.cmd_files.specs.Saying.{Puts, Says}

-- ---- inputs that do not serve

-- a file that the refusal names is one that the command reads
abbrev pub NamesInput : Command → Refusal (List ℕ) → Type 0
NamesInput command (TooLong name) = Contains (read_by command) name
NamesInput command (BadSource name bad) = Contains (read_by command) name
NamesInput command (Instance name) = Contains (read_by command) name
NamesInput command refusal = ⊤

-- the command may refuse so, as the table of refusals has it
pub record MayRefuse (command : Command) (refusal : Refusal (List ℕ)) : Type 0 where
  pub met : IsTrue (list_any (bytes_eq (word_of command)) (row_of refusal).met_by)
  pub names : NamesInput command refusal

-- a read of an input file failed, as the last fault, and all that is read before it served
pub record WasUnread (command : Command) (name : List ℕ) (old new : Shelved) : Type 0 where
  pub may : Contains (read_by command) name
  pub fails : CountsFault old.faults new.faults Read name
  pub first : Comes (reading_of command) (Err (CannotRead name)) old
  pub same : IsTrue old.tells → SameFiles old.files new.files

-- the files ask for a task that cannot be done, for this reason
pub record CannotDo (command : Command) (files : Files) (refusal : Refusal (List ℕ)) : Type 0 where
  pub task : Task
  pub judged : judge command files ≡ Ok task
  pub refuses : Refuses task refusal

-- the files deserve that the command refuses so: they do not serve, or what they ask for cannot be done
abbrev pub Deserves : Command → Files → Refusal (List ℕ) → Type 0
Deserves command files refusal = (judge command files ≡ Err (Refused refusal)) ⊎ CannotDo command files refusal

-- the input files were refused: where they are told, as they deserve
pub record WasRefused (command : Command) (refusal : Refusal (List ℕ)) (old new : Shelved) : Type 0 where
  pub may : MayRefuse command refusal
  pub deserved : IsTrue old.tells → Deserves command old.files refusal
  pub no_fault : new.faults ≡ old.faults
  pub same : IsTrue old.tells → SameFiles old.files new.files

-- ---- work on a disk

-- the files ask for a task that can be done
pub record CanWork (command : Command) (files : Files) : Type 0 where
  pub task : Task
  pub judged : judge command files ≡ Ok task
  pub can : (refusal : Refusal (List ℕ)) → Refuses task refusal → ⊥

-- the work on a disk stopped so: the input files serve, and no file was touched
pub record StoppedOnDisk (command : Command) (stop : DiskStop) (old new : Shelved) : Type 0 where
  pub may : MayStopOnDisk command stop
  pub serve : IsTrue old.tells → CanWork command old.files
  pub no_fault : new.faults ≡ old.faults
  pub same : IsTrue old.tells → SameFiles old.files new.files

-- ---- what is written

-- the configuration that `migrate` wrote is the one that it read, not only its text
abbrev pub KeepsConfig : Command → Files → Files → Type 0
KeepsConfig (migrate names) old new =
    option_map configuration (new names.target) ≡ option_map configuration (old names.source)
KeepsConfig other old new = Unit {0}

-- the files hold what the work of their old contents asks for
pub record AllWritten (command : Command) (old new : Files) (said : List ℕ) : Type 0 where
  pub task : Task
  pub judged : judge command old ≡ Ok task
  pub work : Work
  pub is_work : Does task work
  pub written : AreWritten work.outputs new
  pub text : said ≡ work.said
  pub keeps : KeepsConfig command old new
  pub others : SameBut (written_by command) old new

-- the work of their old contents was written up to some place
pub record PartWritten (command : Command) (old new : Files) : Type 0 where
  pub task : Task
  pub judged : judge command old ≡ Ok task
  pub work : Work
  pub is_work : Does task work
  pub place : StandUpTo work.outputs old new
  pub others : SameBut (written_by command) old new

-- the command did its work, with this text
pub record WasDone (command : Command) (said : List ℕ) (old new : Shelved) : Type 0 where
  pub written : IsTrue old.tells → AllWritten command old.files new.files said
  pub no_fault : new.faults ≡ old.faults

-- a creation or an append of a file that the command writes failed, as the last fault
pub record WasNotWritten (command : Command) (old new : Shelved) : Type 0 where
  pub fails : OneFails (written_by command) old.faults new.faults Failed
  pub part : IsTrue old.tells → PartWritten command old.files new.files

-- memory was wanted: before the first file was made, or by a call of the shelf
abbrev pub WantedMemory : Command → Shelved → Shelved → Type 0
WantedMemory command old new =
    (IsTrue old.tells → SameFiles old.files new.files)
    ⊎ (Rose old.faults.refused new.faults.refused
    × (IsTrue old.tells → PartWritten command old.files new.files))

-- ---- the run

-- why a command stopped, and what stands then
abbrev pub StopsFor : Command → Stop (List ℕ) → Shelved → Shelved → Type 0
StopsFor command (CannotRead name) old new = WasUnread command name old new
StopsFor command (OnDisk stop) old new = StoppedOnDisk command stop old new
StopsFor command CannotWrite old new = WasNotWritten command old new
StopsFor command NoMemory old new = WantedMemory command old new
StopsFor command (Refused refusal) old new = WasRefused command refusal old new

-- the command did its work, with this text, or stopped
abbrev pub EndsAs : Command → Result (List ℕ) (Stop (List ℕ)) → Shelved → Shelved → Type 0
EndsAs command (Ok said) old new = WasDone command said old new
EndsAs command (Err reason) old new = StopsFor command reason old new

-- what a run of this command does: it ends so, and the text that goes with it was put or not
pub record RanCommand (command : Command) (status : ℕ) (old new : Shelved) (before after : Heard)
    : Type 0 where
  pub answer : Result (List ℕ) (Stop (List ℕ))
  pub ends : EndsAs command answer old new
  pub puts : Puts (answer_text answer) (answer_status answer) status before after

-- the usage was put or not; where clap read the words, it may have wanted memory
abbrev pub SaysUsage : Bool → ℕ → Heard → Heard → Type 0
SaysUsage true status before after = Says usage 2 status before after
SaysUsage false status before after = Puts usage 2 status before after

-- the words are no command: the usage was put, and the shelf was not touched
pub record Misused (by_clap : Bool) (status : ℕ) (old new : Shelved) (before after : Heard) : Type 0 where
  pub files : SameFiles old.files new.files
  pub no_fault : new.faults ≡ old.faults
  pub puts : SaysUsage by_clap status before after

-- what a run does, where the words give this command or none
abbrev pub Ran : Option Command → Bool → ℕ → Shelved → Shelved → Heard → Heard → Type 0
Ran None by_clap status old new before after = Misused by_clap status old new before after
Ran (Some command) by_clap status old new before after = RanCommand command status old new before after

-- the files that the words let change
abbrev pub written_of : Option Command → List (List ℕ)
written_of None = []
written_of (Some command) = written_by command
