-- How a command ends, by how its input files were read and its files written.
use Rattle.cmd_spec.proofs.Names.{AreWritten, Bor, IsErrAnd, CannotRead, Command, Deserves, Does, EndsAs, Err, Failed, Files, Global, IsTrue, KeepsConfig, List, MemoryRefused, NoMemory, Ok, OneFails, PartWritten, Reads, Refusal, Refused, Refuses, Result, SameBut, Shelved, StandUpTo, Stop, StopsFor, Task, Vec, WasDone, Work, WriteFault, Writes, arith, inl, inr, judge, migrate, names_of, plain_end, plain_stop, reading_of, stop_of_write, subst, written_by, ℕ, ⊤, ◌∙◌, ◌≡◌}
use Rattle.std.proofs.Math.Path.{fun_ext}
use Rattle.cmd_files.proofs.ExitLemmas.{left_with}
use Rattle.cmd_files.proofs.ReadingLemmas.{comes_over, read_over}
use Rattle.cmd_spec.proofs.MayLemmas.{all_end, may_end}

-- ---- what `migrate` keeps

keeps_of : (command : Command) (task : Task) (work : Work) (old new : Files) → judge command old ≡ Ok task → Does task work
    → AreWritten work.outputs new → KeepsConfig command old new
unfolding reading_of
keeps_of (migrate names) task work old new judged is written = grind (arith, judged, is, written)
keeps_of other task work old new judged is written = tt

-- ---- input files

-- a command stopped at them
pub reading_ends : (command : Command) (reason : Stop (List ℕ)) (old new : Shelved) → Reads (reading_of command) (Err reason) old new
    → StopsFor command reason old new
reading_ends command (CannotRead name) old new did =
    assumption (all_end command (reading_of command) _ old (may_end command) did.ends.1)
reading_ends command (Refused why) old new did =
    let deserved : IsTrue old.tells → Deserves command old.files why = λ told.
    elim (comes_over (reading_of command) _ old told did.ends.1) [ inl is ↦ inl is | inr failed ↦ absurd (cc (failed.1)) ] in
    assumption (all_end command (reading_of command) _ old (may_end command) did.ends.1, deserved)
reading_ends command NoMemory old new did = inl did.same
reading_ends command other old new did = absurd did.ends

-- an exit with this reason ends so
pub left_ends : (command : Command) (answer : Result (Vec ℕ Global) (Stop (Bor (List ℕ)))) (reason : Stop (Bor (List ℕ))) (old new : Shelved)
    → IsErrAnd answer (λ y. y ≡ reason) → StopsFor command (plain_stop reason) old new → EndsAs command (plain_end answer) old new
left_ends command answer reason old new = left_with (λ a. EndsAs command (plain_end a) old new) answer reason

pub left_unread : (command : Command) (answer : Result (Vec ℕ Global) (Stop (Bor (List ℕ)))) (reason : Stop (Bor (List ℕ))) (old new : Shelved)
    → IsErrAnd answer (λ y. y ≡ reason) → Reads (reading_of command) (Err (plain_stop reason)) old new → EndsAs command (plain_end answer) old new
left_unread command answer reason old new left did =
    left_ends command answer reason old new left (reading_ends command (plain_stop reason) old new did)

-- a command came to a task
module _ (command : Command) (task : Task) (old mid : Shelved) (came : Reads (reading_of command) (Ok task) old mid) where
  pub task_found : IsTrue old.tells → judge command old.files ≡ Ok task
  task_found told = read_over (reading_of command) task old mid came told

  -- that cannot be done
  pub cannot_do : (refusal : Refusal (List ℕ)) → Refuses task refusal → StopsFor command (Refused refusal) old mid
  cannot_do refusal refuses = record {
    may = all_end command (reading_of command) (Ok task) old (may_end command) came.ends.1 refusal refuses;
    deserved = λ told. inr (record { task = task; judged = task_found told; refuses = refuses });
    no_fault = came.ends.0;
    same = came.same;
  }

  -- ---- the files that it writes

  module _ (work : Work) (is : Does task work) (writes : names_of work.outputs ≡ written_by command) (new : Shelved) where
    -- no file but these changed
    others : {answer : Result ⊤ WriteFault} → Writes work.outputs answer mid new → IsTrue old.tells → SameBut (written_by command) old.files new.files
    others wrote told name none =
        wrote.others (rw came.tells told) name (rw writes none) ∙ came.same told name

    -- they were written
    pub work_done : (said : List ℕ) → said ≡ work.said → Writes work.outputs (Ok tt) mid new → WasDone command said old new
    work_done said text wrote = record {
      written = λ told.
          let written = wrote.ends.1 (rw came.tells told) in
          let keeps = keeps_of command task work old.files new.files (task_found told) is written in
          search (task_found told, written, keeps, others wrote told);
      no_fault = wrote.ends.0 ∙ came.ends.0;
    }

    part_written : (fault : WriteFault) → Writes work.outputs (Err fault) mid new → IsTrue old.tells → PartWritten command old.files new.files
    part_written fault wrote told =
        let stands : StandUpTo work.outputs old.files new.files =
        subst (λ (files : Files). StandUpTo work.outputs files new.files) (fun_ext (came.same told)) (wrote.ends.1 (rw came.tells told)) in
        search (task_found told, stands, others wrote told)

    fails : (fault : WriteFault) → Writes work.outputs (Err fault) mid new → OneFails (written_by command) old.faults new.faults fault
    fails fault wrote = rw (came.ends.0, writes) at wrote.ends.0

    -- or the write of one failed, or memory was refused to it
    pub work_unwritten : (fault : WriteFault) → Writes work.outputs (Err fault) mid new
        → StopsFor command (plain_stop (stop_of_write {N = Bor (List ℕ)} fault)) old new
    work_unwritten Failed wrote = record { fails = fails Failed wrote; part = part_written Failed wrote }
    work_unwritten MemoryRefused wrote =
        let one = fails MemoryRefused wrote in inr (one.fails.rose, part_written MemoryRefused wrote)
