-- How a `keep` and a `recall` end, over the files.
use Rattle.cmd_disk.proofs.Names.{BeginFault, Bor, EndsAs, Err, Failed, Global, IsTrue, KeepFiles, Keeping, KeepsBehind, KeptAtEnd, LeavesBehind, LeavesOnly, List, NoMemory, Ok, OnDisk, PairFiles, Reading, Reads, Recorded, Result, Shelved, Shown, State, Stop, StopsFor, StopsKeeping, Vec, [], gives, goes_on, inl, keep, keeps, not_begun, over, plain_end, plain_stop, read_none, read_over, reading_of, recall, recalls, recorded_in, refl, subst, task_found, ℕ, ⊤, ◌≡◌, Command, Task, MayStopOnDisk}
use Rattle.cmd_files.specs.declared.stop.DiskStop.{DiskStop}
use Rattle.cmd_spec.proofs.Names.{CanBeDone}
use Rattle.memory_store.specs.declared.store.BeginFault.TheVariants as begin

-- ---- a recording that was not read

pub unread_end : {A : Type 0} (reading : Reading A) (old new : Shelved) (reason : Stop (List ℕ)) → Reads reading (Err reason) old new
    → (Synced : Type 0) (keeping : Keeping) (state : State) → (Synced → LeavesOnly (KeepsBehind keeping 0) state)
    → KeptAtEnd {A = List ℕ} Synced keeping (Err reason) state
unread_end reading old new (OnDisk stop) did synced keeping state kept = absurd did.ends
unread_end reading old new reason did synced keeping state kept = kept

-- ---- work on a disk that stopped

-- its files serve
stopped_on : (command : Command) (task : Task) (old mid : Shelved) → Reads (reading_of command) (Ok task) old mid → CanBeDone task
    → (stop : DiskStop) → MayStopOnDisk command stop → StopsFor command (OnDisk stop) old mid
stopped_on command task old mid came can stop may = record {
  may = may;
  serve = λ told. record { task = task; judged = task_found command task old mid came told; can = can };
  no_fault = came.ends.0;
  same = came.same;
}

-- ---- a recording that was read

module _ (names : KeepFiles) (recorded : Recorded) (old new : Shelved) (read : Reads (recorded_in names.from) (Ok recorded) old new) where
  pub came : Reads (reading_of (keep names)) (Ok (keeps recorded.config recorded.told.turns)) old new
  unfolding reading_of
  came =
      goes_on (recorded_in names.from) (λ (own : Recorded). gives (keeps own.config own.told.turns)) recorded old new new read _
      (read_none _ new)

  pub kept_in_part : (reason : Stop (Bor (List ℕ))) → StopsKeeping reason → StopsFor (keep names) (plain_stop reason) old new
  kept_in_part (OnDisk Failed) may = absurd may
  kept_in_part (OnDisk stop) may = stopped_on (keep names) _ old new came (λ refusal none. none) stop tt
  kept_in_part NoMemory may = inl came.same
  kept_in_part reason may = absurd may

-- what is left is told for any recording that the files have, which is this one
pub leaves_own : {A B N M : Type 0} (names : KeepFiles) (recorded : Recorded) (old new : Shelved) → Reads (recorded_in names.from) (Ok recorded) old new
    → (disk left : Shown) → IsTrue old.tells → (own : Recorded) → over (recorded_in names.from) old.files ≡ Ok own
    → (end : Result A (Stop N)) (told : Result B (Stop M))
    → ((Synced : Type 0) (keeping : Keeping) (state : State) → KeptAtEnd Synced keeping end state → KeptAtEnd Synced keeping told state)
    → LeavesBehind recorded.config recorded.told.turns disk left end → LeavesBehind own.config own.told.turns disk left told
leaves_own names recorded old new read disk left tells own found end told to leaves base was before =
    let same : recorded ≡ own = cc (read_over (recorded_in names.from) recorded old new read tells, found) in
    let now = subst (λ (kept : Recorded). LeavesBehind kept.config kept.told.turns disk left end) same leaves base was before in
    record {
      any_moment = now.any_moment;
      at_end = to (disk.run.now.written ≡ []) (record { config = own.config; turns = own.told.turns; base = base; was = was }) left.run.now now.at_end;
    }

pub plain_kept : (reason : Stop (Bor (List ℕ))) (Synced : Type 0) (keeping : Keeping) (state : State)
    → KeptAtEnd {A = ⊤} Synced keeping (Err reason) state → KeptAtEnd {A = List ℕ} Synced keeping (Err (plain_stop reason)) state
plain_kept (OnDisk Failed) synced keeping state kept = kept
plain_kept reason synced keeping state kept = kept

-- ---- a disk that is recalled

pub recall_came : (names : PairFiles) (shelved : Shelved) → Reads (reading_of (recall names)) (Ok (recalls names.target)) shelved shelved
unfolding reading_of
recall_came names shelved = read_none _ shelved

-- its store was not begun
pub recall_not_begun : {D : Type 0} (names : PairFiles) (fault : BeginFault D) (shelved : Shelved)
    → EndsAs (recall names) (plain_end (not_begun {T = Vec ℕ Global} Failed fault).end) shelved shelved
recall_not_begun names (begin.NoMemory disk) shelved = inl (λ told name. refl)
recall_not_begun names fault shelved = stopped_on (recall names) _ _ _ (recall_came names shelved) (λ refusal none. none) _ tt
