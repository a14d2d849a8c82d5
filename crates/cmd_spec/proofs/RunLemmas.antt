-- How a command ended, how that was told, and what the files deserve.
use Rattle.cmd_spec.proofs.Names.{Bool, Bor, CanBeDone, CannotRead, CannotWrite, Command, Deserves, DidWork, Does, EndsAs, EndsOrFails, EndsWith, Err, Global, Heard, IsTrue, List, NoMemory, None, Ok, OnDisk, Option, Puts, Ran, RanCommand, Refusal, Refused, Refuses, Result, SameBut, Shelved, Some, Stop, StopsFor, Task, Tells, Vec, Work, answer_status, answer_text, arith, false, inl, inr, judge, no_memory_text, plain_end, plain_stop, refl, row_of, stop_status, true, written_by, written_of, ℕ, ⊤, ◌≡◌, ◌≢◌, ap, DiskStop, MissesOne, disk_status}

module _ (command : Command) (status : ℕ) (old new : Shelved) (before after : Heard) where
  -- a run that ended so, of whose answer this holds
  pub record RanSo (Q : Result (List ℕ) (Stop (List ℕ)) → Type 0) : Type 0 where
    pub ran : RanCommand command status old new before after
    pub holds : Q ran.answer

  module _ (Q : Result (List ℕ) (Stop (List ℕ)) → Type 0) (wanting : Q (Err NoMemory)) where
    so : (answer : Result (List ℕ) (Stop (List ℕ))) → EndsAs command answer old new
        → Puts (answer_text answer) (answer_status answer) status before after → Q answer → RanSo Q
    so answer ends puts holds = record { ran = record { answer = answer; ends = ends; puts = puts }; holds = holds }

    -- where there was no memory to tell why it stopped, memory was wanted
    stop_so : (reason : Stop (List ℕ)) → StopsFor command reason old new → Tells (Err reason) status before after
        → Q (Err reason) → RanSo Q
    stop_so CannotWrite stops puts holds = so (Err CannotWrite) stops puts holds
    stop_so NoMemory stops puts holds = so (Err NoMemory) stops puts holds
    stop_so reason stops (inl puts) holds = so (Err reason) stops puts holds
    stop_so reason stops (inr puts) holds = so (Err NoMemory) (inl stops.same) puts wanting

    -- a command that ended so, and told it
    pub ended_so : (end : Result (Vec ℕ Global) (Stop (Bor (List ℕ)))) → EndsAs command (plain_end end) old new
        → Tells (plain_end end) status before after → Q (plain_end end) → RanSo Q
    ended_so (Ok said) ends puts holds = so (Ok said.items) ends puts holds
    ended_so (Err reason) ends tells holds = stop_so (plain_stop reason) ends tells holds

  -- whatever holds of its answer
  pub ended_ran : (end : Result (Vec ℕ Global) (Stop (Bor (List ℕ)))) → EndsAs command (plain_end end) old new
      → Tells (plain_end end) status before after → RanCommand command status old new before after
  ended_ran end ends tells = (ended_so (λ answer. ⊤) tt end ends tells tt).ran

  -- ---- what the files deserve decides how a run ends

  module _ (told : IsTrue old.tells) where
    -- the task can be neither done nor refused, but for this stop
    abbrev pub Only : Stop (List ℕ) → Task → Type 0
    Only wanted task =
        ((refusal : Refusal (List ℕ)) → Refuses task refusal → Refused refusal ≡ wanted)
        × ((work : Work) → Does task work → ⊥) × (CanBeDone task → ⊥)

    -- where the files deserve a stop, it ends with that, unless a read failed before
    pub stop_ends : (wanted : Stop (List ℕ))
        → ((refusal : Refusal (List ℕ)) → judge command old.files ≡ Err (Refused refusal) → Refused refusal ≡ wanted)
        → ((task : Task) → judge command old.files ≡ Ok task → Only wanted task) → (answer : Result (List ℕ) (Stop (List ℕ)))
        → EndsAs command answer old new → Puts (answer_text answer) (answer_status answer) status before after
        → EndsWith (stop_status wanted) command status old new before after
    stop_ends wanted refused only (Ok said) ends puts =
        let all = ends.written told in absurd ((only all.task all.judged).1 all.work all.is_work)
    stop_ends wanted refused only (Err (CannotRead name)) ends puts =
        inr (inr (inr (record { name = name; unread = ends })))
    stop_ends wanted refused only (Err (Refused refusal)) ends puts =
        let same : Refused refusal ≡ wanted = elim (ends.deserved told)
        [ inl judged ↦ refused refusal judged | inr cannot ↦ (only cannot.task cannot.judged).0 refusal cannot.refuses ] in
        grind (arith, ap stop_status same, puts.is, puts.cause)
    stop_ends wanted refused only (Err (OnDisk stop)) ends puts =
        let serve = ends.serve told in absurd ((only serve.task serve.judged).2 serve.can)
    stop_ends wanted refused only (Err CannotWrite) ends puts =
        let part = ends.part told in absurd ((only part.task part.judged).1 part.work part.is_work)
    stop_ends wanted refused only (Err NoMemory) ends puts = grind (arith, puts.is, puts.cause)

    module _ (task : Task) (serves : judge command old.files ≡ Ok task) where
      -- files whose task can be done are not refused
      pub none_deserved : (refusal : Refusal (List ℕ)) → CanBeDone task → Deserves command old.files refusal → ⊥
      none_deserved refusal can deserved = grind (arith, serves, can, deserved)

      pub served_ends : (answer : Result (List ℕ) (Stop (List ℕ))) → CanBeDone task → EndsAs command answer old new
          → Puts (answer_text answer) (answer_status answer) status before after
          → EndsOrFails 0 command status old new before after
      served_ends (Err (CannotRead name)) can ends puts =
          inl (inr (inr (inr (record { name = name; unread = ends }))))
      served_ends (Err (Refused refusal)) can ends puts = absurd (none_deserved _ can (ends.deserved told))
      served_ends (Err (OnDisk stop)) can ends puts =
          let own : EndsWith (disk_status stop) command status old new before after = grind (arith, puts.is, puts.cause) in
          elim own [ inl is ↦ inr (inr (record { stop = stop; may = ends.may; is = is })) | inr other ↦ inl (inr other) ]
      served_ends other can ends puts = grind (arith, ends, puts.is, puts.cause)

-- a status that is neither 0 nor that of a failed read or write
abbrev pub IsOwn : ℕ → Type 0
IsOwn status = (status ≢ 0) × (status ≢ 3) × (status ≢ 7)

-- each refusal has such a one
pub refusal_own : (refusal : Refusal (List ℕ)) → IsOwn (row_of refusal).status
refusal_own refusal = grind (arith)

-- and each stop on a disk
pub disk_own : (stop : DiskStop) → IsOwn (disk_status stop)
disk_own stop = grind (arith)

module _ (command : Command) (old new : Shelved) (before after : Heard) (told : IsTrue old.tells) (task : Task)
    (serves : judge command old.files ≡ Ok task) where
  -- a run that ended with 0 did work that its files ask for
  pub did_work : (answer : Result (List ℕ) (Stop (List ℕ))) → EndsAs command answer old new
      → Puts (answer_text answer) (answer_status answer) 0 before after → DidWork task new
  did_work (Ok said) ends puts =
      let all = ends.written told in
      record { work = all.work; is_work = grind (arith, serves, all.judged, all.is_work); written = all.written }
  did_work (Err reason) ends puts = absurd (grind (arith, puts.is))

-- ---- files that a run does not write

module _ (command : Command) (old new : Shelved) (told : IsTrue old.tells) where
  pub ended_others : (answer : Result (List ℕ) (Stop (List ℕ))) → EndsAs command answer old new
      → SameBut (written_by command) old.files new.files
  ended_others (Ok said) ends = (ends.written told).others
  ended_others (Err CannotWrite) ends = (ends.part told).others
  ended_others (Err NoMemory) ends = elim ends [ inl same ↦ λ name none. same told name | inr refused ↦ (refused.1 told).others ]
  ended_others (Err other) ends = λ name none. ends.same told name

-- they stay as they were
pub ran_others : (command : Option Command) (by_clap : Bool) (status : ℕ) (old new : Shelved) (before after : Heard)
    → Ran command by_clap status old new before after → IsTrue old.tells → SameBut (written_of command) old.files new.files
ran_others None by_clap status old new before after ran told = λ name none. ran.files name
ran_others (Some command) by_clap status old new before after ran told = ended_others command old new told ran.answer ran.ends

-- ---- what the words ask for

-- where memory was wanted to read the words
pub words_starved : (command : Option Command) (by_clap : Bool) (status : ℕ) (old : Shelved) (before after : Heard) → IsTrue by_clap
    → Puts no_memory_text 8 status before after → Ran command by_clap status old old before after
words_starved None true status old before after clap puts =
    record { files = λ name. refl; no_fault = refl; puts = inr puts }
words_starved None false status old before after clap puts = absurd (cc)
words_starved (Some command) by_clap status old before after clap puts =
    record { answer = Err NoMemory; ends = inl (λ told name. refl); puts = puts }

-- ---- a shelf that counts no fault

-- each file could be read and written
pub no_file_fails : (command : Command) (status : ℕ) (old new : Shelved) (before after : Heard) → RanCommand command status old new before after
    → new.faults.count ≡ 0 → (status ≢ 3) × (status ≡ 7 → MissesOne before.misses after.misses)
no_file_fails command status old new before after ran none = ended ran.answer ran.ends ran.puts
  where
    ended : (answer : Result (List ℕ) (Stop (List ℕ))) → EndsAs command answer old new
        → Puts (answer_text answer) (answer_status answer) status before after
        → (status ≢ 3) × (status ≡ 7 → MissesOne before.misses after.misses)
    ended (Err (CannotRead name)) ends puts = absurd (grind (arith, none, ends.fails))
    ended (Err CannotWrite) ends puts = absurd (grind (arith, none, ends.fails))
    ended other ends puts = grind (arith, puts.is, puts.cause)
