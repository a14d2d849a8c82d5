-- How a run ends that answers something beside its status.
use Rattle.cmd_steps.proofs.Names.{Bor, Command, EndsAs, Err, Files, Finished, Heard, IfOk, IsErrAnd, IsTrue, List, None, Ok, Option, RanWith, Result, RunsWith, SameBut, Shelved, Some, Stop, Tells, TellsFinished, arith, disk_own, ended_others, ended_ran, finished_end, left_with, plain_stop, refusal_own, ℕ, ◌≡◌, ◌≢◌}
use Rattle.cmd_steps.specs.Answered.{written_in}

-- a run that stopped does not end with status 0
stop_fails : (reason : Stop (List ℕ)) (status : ℕ) (before after : Heard) → Tells (Err reason) status before after → status ≢ 0
stop_fails reason status before after tells = grind (arith, tells, refusal_own, disk_own)

-- an exit with this reason ends so
pub left_finished : {M : Type 0} (command : Command) (answer : Result (Finished M) (Stop (Bor (List ℕ)))) (reason : Stop (Bor (List ℕ)))
    (old new : Shelved) → IsErrAnd answer (λ y. y ≡ reason) → EndsAs command (Err (plain_stop reason)) old new
    → EndsAs command (finished_end answer) old new
left_finished command answer reason old new = left_with (λ a. EndsAs command (finished_end a) old new) answer reason

module _ {M : Type 0} (command : Command) (Tell : M → List ℕ → Files → Files → Type 0) (status : ℕ)
    (old new : Shelved) (before after : Heard) where
  -- a run that ended so, and told it
  pub run_ran : (end : Result (Finished M) (Stop (Bor (List ℕ)))) (answer : Option M)
      → (IsTrue old.tells → IfOk end (λ f. Tell f.made f.line.items old.files new.files))
      → EndsAs command (finished_end end) old new
      → TellsFinished end answer status before after → RanWith command Tell answer status old new before after
  run_ran (Ok finished) answer tell ends tells = record {
    ran = record { answer = Ok finished.line.items; ends = ends; puts = tells.0 };
    answers = grind (arith, tell, tells);
  }
  run_ran (Err reason) answer tell ends tells = record {
    ran = ended_ran command status old new before after (Err reason) ends tells.0;
    answers = rw tells.1 (stop_fails (plain_stop reason) status before after tells.0);
  }

-- ---- files that it does not write

-- they stay as they were
pub runs_others : {F M : Type 0} (command : F → Command) (Tell : F → M → List ℕ → Files → Files → Type 0) (asked : Option F) (answer : Option M)
    (status : ℕ) (old new : Shelved) (before after : Heard) → RunsWith command Tell asked answer status old new before after
    → IsTrue old.tells → SameBut (written_in command asked) old.files new.files
runs_others command Tell None answer status old new before after runs told = λ name none. runs.misused.files name
runs_others command Tell (Some files) answer status old new before after runs told =
    ended_others (command files) old new told runs.ran.answer runs.ran.ends
