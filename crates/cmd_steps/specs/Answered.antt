-- What a run does that answers something beside its status.
use Rattle.std.specs.Prelude.{◌≡◌, ◌≢◌, ℕ, false, List, [], IsTrue, Option, Some, None, Result, Ok, Err}
use Rattle.cmd_steps.specs.Names.{Files, Shelved, Heard, Stop, Bor, RanCommand, Misused, Command, written_by}
pub use Rattle.cmd_steps.specs.declared.answering.Finished.{Finished}
use Rattle.cmd_files.specs.{Puts, Tells, plain_stop, seen_as}

-- a run was done, and made this: its text was put, and the files tell what was made
pub record AnswersMade {M : Type 0} (Tell : M → List ℕ → Files → Files → Type 0) (made : M) (status : ℕ)
    (old new : Shelved) (before after : Heard) : Type 0 where
  pub done : status ≡ 0
  pub said : List ℕ
  pub puts : Puts said 0 status before after
  pub files_tell : IsTrue old.tells → Tell made said old.files new.files

-- where the status is 0 something is answered, and else nothing
abbrev pub Answers : {M : Type 0} → (M → List ℕ → Files → Files → Type 0) → Option M → ℕ → Shelved → Shelved → Heard → Heard
    → Type 0
Answers Tell None status old new before after = status ≢ 0
Answers Tell (Some made) status old new before after = AnswersMade Tell made status old new before after

-- what such a run does: it ends as each command does, and answers
pub record RanWith {M : Type 0} (command : Command) (Tell : M → List ℕ → Files → Files → Type 0) (answer : Option M)
    (status : ℕ) (old new : Shelved) (before after : Heard) : Type 0 where
  pub ran : RanCommand command status old new before after
  pub answers : Answers Tell answer status old new before after

-- where the words are not in form, the usage was put, with status 2 or that of the put, and nothing is answered
pub record MisusedWith {M : Type 0} (answer : Option M) (status : ℕ) (old new : Shelved) (before after : Heard) : Type 0 where
  pub misused : Misused false status old new before after
  pub none : answer ≡ None

-- what such a run does, where the words give these files or none
abbrev pub RunsWith : {F M : Type 0} → (F → Command) → (F → M → List ℕ → Files → Files → Type 0) → Option F → Option M → ℕ
    → Shelved → Shelved → Heard → Heard → Type 0
RunsWith command Tell None answer status old new before after = MisusedWith answer status old new before after
RunsWith command Tell (Some files) answer status old new before after =
    RanWith (command files) (Tell files) answer status old new before after

-- what was made is answered exactly where the status is 0
abbrev pub IsAnswered : {M : Type 0} → ℕ → M → Option M → Type 0
IsAnswered status made None = status ≢ 0
IsAnswered status made (Some answered) = (status ≡ 0) × (answered ≡ made)

-- the line of a run that was done was put, and what it made is answered where the status is 0; or why it stopped was put
abbrev pub TellsFinished : {M : Type 0} → Result (Finished M) (Stop (Bor (List ℕ))) → Option M → ℕ → Heard → Heard → Type 0
TellsFinished (Ok finished) answer status before after =
    Puts finished.line.items 0 status before after × IsAnswered status finished.made answer
TellsFinished (Err reason) answer status before after =
    Tells (Err (plain_stop reason)) status before after × (answer ≡ None)

-- the end of a run, with its text
abbrev pub finished_end : {M : Type 0} → Result (Finished M) (Stop (Bor (List ℕ))) → Result (List ℕ) (Stop (List ℕ))
finished_end = seen_as (λ finished. finished.line.items)

-- the files that the words let change
abbrev pub written_in : {F : Type 0} → (F → Command) → Option F → List (List ℕ)
written_in command None = []
written_in command (Some files) = written_by (command files)
