-- How work on a disk ends: what it leaves there, and why it ends.
use Rattle.cmd_disk.proofs.Names.{BeginFault, Err, FailedAfter, HasDiskCause, HasSaveCause, IsSettled, IsTrue, Keeping, KeepsBehind, KeepsRows, KeepsSome, Kept, KeptAtEnd, KeptIs, LeavesAs, LeavesBehind, LeavesOnly, LeavesSince, List, MayBeLeft, Ok, OnDisk, Parts, Result, Row, Shown, State, Stop, Turn, WornAfter, [], bytes_of, goes_on_with, inl, kept_slot, not_begun, only_contents, settled_leaves, weaker, ℕ, ⊤, ◌≡◌, arith, Bor, Command, EndsAs, Global, Heard, RanSo, Shelved, Tells, TellsEnd, Vec, ended_so, inr, plain_end, plain_stop, refl}
use Rattle.memory_store.specs.Answers.{begun_disk}
use Rattle.memory_store.specs.Stores.{StoreValue}
use Rattle.cmd_disk.proofs.SavingLemmas.{none_saved, some_saved}
use Rattle.memory_store.specs.declared.store.BeginFault.TheVariants as begin

-- a disk keeps its records under one sequence
pub one_sequence : (kept : Kept) (a b : ℕ) (r s : List Row) → KeptIs kept a r → KeptIs kept b s → a ≡ b
one_sequence kept a b r s x y = grind (arith, x, y)

module _ (config : Parts) (turns : List Turn) where
  -- nothing was saved
  pub left_behind : {A N : Type 0} (old new : Shown) (end : Result A (Stop N))
      → ((Synced : Type 0) (keeping : Keeping) (state : State) → (Synced → LeavesOnly (KeepsBehind keeping 0) state) → KeptAtEnd Synced keeping end state)
      → LeavesSince old.run new.run (MayBeLeft old.run.now) → LeavesBehind config turns old new end
  left_behind old new end any since base was keeps =
      let behind : Keeping = record { config = config; turns = turns; base = base; was = was } in
      record {
        any_moment = λ synced.
            weaker _ _ old.run new.run (λ left may. some_saved behind left (rw (only_contents old.run.now synced left may) keeps)) since;
        at_end = any _ behind new.run.now
            (λ synced left may. none_saved behind left (rw (only_contents old.run.now synced left (since.now left may)) keeps));
      }

  -- a store was not begun
  pub none_begun : {A D : Type 0} (shows : D → Shown) (old : D) (fault : BeginFault D)
      → LeavesSince (shows old).run (shows (begun_disk (Err fault))).run (MayBeLeft (shows old).run.now)
      → LeavesBehind config turns (shows old) (shows (not_begun {T = A} (FailedAfter 0) fault).disk) (not_begun {T = A} (FailedAfter 0) fault).end
  none_begun shows old (begin.Failed disk) = left_behind (shows old) (shows disk) _ (λ synced keeping state kept is left may. inl (kept is left may))
  none_begun shows old fault = left_behind (shows old) (shows (begun_disk (Err fault))) _ (λ synced keeping state kept. kept)

-- what holds at the end of saving holds where more is asked before
at_end_if : {A N : Type 0} (Synced : Type 0) (keeping : Keeping) (end : Result A (Stop N)) (state : State)
    → KeptAtEnd ⊤ keeping end state → KeptAtEnd Synced keeping end state
at_end_if Synced keeping (Ok done) state kept = kept
at_end_if Synced keeping (Err (OnDisk (WornAfter saves))) state kept = kept
at_end_if Synced keeping (Err reason) state kept = λ synced. kept tt

-- saving after a store that was begun
module _ {A N : Type 0} (config : Parts) (turns : List Turn) (old mid new : Shown) (sequence : ℕ) (rows : List Row)
    (there : KeepsRows (bytes_of mid) sequence rows) (same : bytes_of mid ≡ bytes_of old) (settled : IsSettled mid)
    (since : LeavesSince old.run mid.run (MayBeLeft old.run.now)) (end : Result A (Stop N)) where
  pub saved_behind : ((was : List Row) → LeavesOnly (λ bytes. KeepsRows bytes sequence was) mid.run.now
      → LeavesAs ⊤ (record { config = config; turns = turns; base = sequence; was = was }) mid.run new.run end)
      → LeavesBehind config turns old new end
  saved_behind saved base was keeps =
      let at : sequence ≡ base = one_sequence (kept_slot (bytes_of old)) _ _ rows was (rw same at there) keeps in
      let keeping : Keeping = record { config = config; turns = turns; base = base; was = was } in
      let ends : LeavesAs ⊤ keeping mid.run new.run end =
      rw (← at) (saved was (settled_leaves _ mid.run.now settled.synced (rw (same, at) keeps))) in
      record {
        any_moment = λ synced.
            goes_on_with (KeepsSome keeping) old.run mid.run new.run
            (weaker _ (KeepsSome keeping) old.run mid.run (λ left may. some_saved keeping left (rw (only_contents old.run.now synced left may) keeps)) since) (ends.any_moment tt);
        at_end = at_end_if (old.run.now.written ≡ []) keeping end new.run.now ends.at_end;
      }

-- why it ends
module _ {D : Type 0} (shows : D → Shown) (old : D) (store : StoreValue D) (left : D)
    (faults : (shows store.disk).faults ≡ (shows old).faults)
    (kept : IsTrue (shows old).tells → (rows : List Row) × KeepsRows (bytes_of (shows old)) store.sequence rows) where
  pub save_cause : {A N : Type 0} (end : Result A (Stop N)) → HasSaveCause shows store left end → HasDiskCause shows old left end
  save_cause (Ok done) cause = λ tells. record { sequence = store.sequence; rows = (kept tells).0; keeps = (kept tells).1 }
  save_cause (Err (OnDisk (FailedAfter saves))) cause = rw (← faults) cause
  save_cause (Err (OnDisk (WornAfter saves))) cause = λ tells. record { kept = record { sequence = store.sequence; rows = (kept tells).0; keeps = (kept tells).1 }; last = cause }
  save_cause (Err reason) cause = absurd cause

-- ---- how that is told

-- a command that ended so answers it, or that memory was wanted to tell why
pub told_end : (command : Command) (status : ℕ) (old new : Shelved) (before after : Heard) (end : Result (Vec ℕ Global) (Stop (Bor (List ℕ))))
    → EndsAs command (plain_end end) old new → Tells (plain_end end) status before after
    → RanSo command status old new before after (TellsEnd (plain_end end))
told_end command status old new before after (Ok said) ends tells =
    record { ran = record { answer = Ok said.items; ends = ends; puts = tells }; holds = refl }
told_end command status old new before after (Err reason) ends tells =
    ended_so command status old new before after (TellsEnd (Err (plain_stop reason))) (inr refl) (Err reason) ends tells (inl refl)
