-- What a disk holds, what its calls make of it, and what a crash may leave.
use Rattle.std.specs.Prelude.{◌≡◌, ◌⊎◌, ⊤, ℕ, ◌+◌, ◌<◌, ◌≤◌, ◌∷◌, [], ◌++◌, List, Bool, IsTrue, length, take, drop, slice_index, Result, Ok, Err}
use Rattle.std.specs.List.{AllByRecursion}
use Rattle.ids_outside.specs.Faults.{Rose}
use Rattle.memory_disk.specs.declared.disk.DiskFailed.{DiskFailed}
use Rattle.memory_disk.specs.declared.disk.Span.{Span}

-- the bytes that a read gives, and the ranges that were written since the last successful sync
pub record State : Type 0 where
  pub contents : List ℕ
  pub written : List Span

-- the state of a disk now, and before each of its calls, the first call first
pub record Run : Type 0 where
  pub now : State
  pub past : List State

-- what a disk shows: whether it tells what it holds, its run, and how many calls have failed
pub record Shown : Type 0 where
  pub tells : Bool
  pub run : Run
  pub faults : ℕ

-- the place is in the range
abbrev pub IsIn : Span → ℕ → Type 0
IsIn span i = (span.at ≤ i) × (i < span.at + span.count)

-- the place is in one of the ranges
abbrev pub IsWritten : List Span → ℕ → Type 0
IsWritten [] i = ⊥
IsWritten (span ∷ spans) i = IsIn span i ⊎ IsWritten spans i

-- so many bytes at a place
abbrev pub part : ℕ → ℕ → List ℕ → List ℕ
part at count bytes = take count (drop at bytes)

-- the bytes with a piece at a place
abbrev pub overwritten : ℕ → List ℕ → List ℕ → List ℕ
overwritten at piece bytes = take at bytes ++ (piece ++ drop (at + length piece) bytes)

-- as many bytes, and outside the range the same
pub record ChangesIn (span : Span) (old new : List ℕ) : Type 0 where
  pub size : length new ≡ length old
  pub others : (i : ℕ) → ¬ IsIn span i → slice_index new i ≡ slice_index old i

-- ---- calls

-- the run with a call that left this state
abbrev pub after : Run → State → Run
after run state = record { now = state; past = run.past ++ run.now ∷ [] }

-- these bytes, of which the range is not yet synced
abbrev pub unsynced : State → Span → List ℕ → State
unsynced state span bytes = record { contents = bytes; written = state.written ++ span ∷ [] }

-- the bytes, all of them synced
abbrev pub synced : List ℕ → State
synced bytes = record { contents = bytes; written = [] }

-- the range of a piece
abbrev pub span_of : ℕ → List ℕ → Span
span_of at piece = record { at = at; count = length piece }

-- a write that left any bytes in its range
pub record Tears (old new : Run) (span : Span) : Type 0 where
  pub torn : List ℕ
  pub within : ChangesIn span old.now.contents torn
  pub leaves : new ≡ after old (unsynced old.now span torn)

-- a call that failed may not have come to the disk at all, else it left this state
abbrev pub FailsWith : Run → Run → State → Type 0
FailsWith old new state = (new ≡ old) ⊎ (new ≡ after old state)

-- a write puts its piece in its place; one that fails may leave any bytes there
abbrev pub Writes : Run → Run → ℕ → List ℕ → Result ⊤ DiskFailed → Type 0
Writes old new at piece (Ok done) = new ≡ after old (unsynced old.now (span_of at piece) (overwritten at piece old.now.contents))
Writes old new at piece (Err failed) = (new ≡ old) ⊎ Tears old new (span_of at piece)

-- a read gives the bytes at its place
abbrev pub Reads : Run → Run → ℕ → List ℕ → Result ⊤ DiskFailed → Type 0
Reads old new at out (Ok done) = (new ≡ after old old.now) × (out ≡ part at (length out) old.now.contents)
Reads old new at out (Err failed) = FailsWith old new old.now

-- a sync leaves nothing written; the disk has its size
abbrev pub Syncs : Run → Run → Result ⊤ DiskFailed → Type 0
Syncs old new (Ok done) = (new ≡ after old (synced old.now.contents)) × (length old.now.contents ≡ 541728)
Syncs old new (Err failed) = FailsWith old new old.now

-- the count rose exactly where the call failed
abbrev pub HasCause : {T : Type 0} → ℕ → ℕ → Result T DiskFailed → Type 0
HasCause before now (Ok done) = now ≡ before
HasCause before now (Err failed) = Rose before now

-- ---- crashes

-- a crash may leave these bytes: any where not yet synced, the others as they are
pub record MayBeLeft (state : State) (left : List ℕ) : Type 0 where
  pub size : length left ≡ length state.contents
  pub others : (i : ℕ) → ¬ IsWritten state.written i → slice_index left i ≡ slice_index state.contents i

-- a crash in this state leaves only bytes of which this holds
abbrev pub LeavesOnly : (List ℕ → Type 0) → State → Type 0
LeavesOnly Holds state = (left : List ℕ) → MayBeLeft state left → Holds left

-- the run went on, and a crash at any moment since, during a call or after the last, leaves only such bytes:
-- what a write or a sync that is cut short may leave is what may be left after it or before it
pub record LeavesSince (old new : Run) (Holds : List ℕ → Type 0) : Type 0 where
  pub passed : List State
  pub goes_on : new.past ≡ old.past ++ passed
  pub each : AllByRecursion (LeavesOnly Holds) passed
  pub now : LeavesOnly Holds new.now

-- the bytes that a disk shows
abbrev pub bytes_of : Shown → List ℕ
bytes_of shown = shown.run.now.contents

-- the disk tells what it holds, and all of that is synced
pub record IsSettled (shown : Shown) : Type 0 where
  pub tells : IsTrue shown.tells
  pub size : length (bytes_of shown) ≡ 541728
  pub synced : shown.run.now.written ≡ []
