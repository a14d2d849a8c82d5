-- What `fold` and `check` do with the files that a replay left.
-- Source: docs/COMMANDS.md.
use Rattle.std.specs.Prelude.{◌≡◌, ◌≤◌}
use Rattle.cmd_steps.specs.Names.{Command, Files, Heard, IfSome, IsTrue, List, Recording, ReplayFiles, SameBut, SameFiles, Shelved, Some, check, command_of, fold, length, replay, replay_of, written_by, ℕ}
use Rattle.idsm_run.specs.Replayed.{RanReplay}
use Rattle.trace_replay.specs.Replayed.{RunManager}

-- the recording that a replay leaves: the configuration that it read, and the journal that it wrote
abbrev pub left_by : ReplayFiles → Recording
left_by names = record { config = names.config; journal = names.journal }

-- `fold` of that recording, into files of these names
abbrev pub fold_again : ReplayFiles → (messages memory : List ℕ) → Command
fold_again names messages memory = fold (record { from = left_by names; messages = messages; memory = memory })

-- `check` of that recording, with the messages that the replay wrote
abbrev pub check_again : ReplayFiles → Command
check_again names = check (record { from = left_by names; messages = names.messages })

-- a replay was asked for by words, and ended with 0, over files that are told
pub record WasReplayed (names : ReplayFiles) (old new : Shelved) : Type 0 where
  pub words : List (List ℕ)
  pub asked : replay_of (command_of words) ≡ Some names
  pub manager : RunManager
  pub before : Heard
  pub after : Heard
  pub ran : RanReplay names (Some manager) 0 old new before after
  pub others : SameBut (written_by (replay names)) old.files new.files
  pub tells : IsTrue old.tells

-- a later run finds the files as the replay left them, and a journal that may be read
pub record FindsLeft (names : ReplayFiles) (left found : Shelved) : Type 0 where
  pub tells : IsTrue found.tells
  pub same : SameFiles left.files found.files
  pub short : IfSome (left.files names.journal) (λ bytes. length bytes ≤ 16777216)

-- these files hold the same messages and the same event memory as the replay's
pub record HasTheSame (names : ReplayFiles) (messages memory : List ℕ) (left new : Files) : Type 0 where
  pub messages_are : new messages ≡ left names.messages
  pub memory_is : new memory ≡ left names.memory
