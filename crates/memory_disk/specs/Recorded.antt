-- What contracts see of a disk in memory, and what its calls make of that.
use Rattle.std.specs.Prelude.{◌≡◌, ◌↔◌, ◌⊎◌, ⊤, ℕ, ◌+◌, ◌<◌, ◌≤◌, [], List, Result, Ok, Err, IsOk, is_ok, if◌then◌else◌, ◌∷◌, length, take, drop}
use Rattle.ids_outside.specs.{counted, CountsCall, IsToFail, Plan}
use Rattle.memory_disk.specs.Disks.{Run, State, after, synced, overwritten, unsynced}
use Rattle.memory_disk.specs.declared.disk.DiskFailed.{DiskFailed}
use Rattle.memory_disk.specs.declared.recording.Call.{Call}
use Rattle.memory_disk.specs.declared.recording.Call.TheVariants.{Wrote, Tore, Synced, Passed}

-- so many calls, and so many bytes of their pieces
pub record Amount : Type 0 where
  pub calls : ℕ
  pub bytes : ℕ

-- the run of a disk, the room that it was made with, and how much of that is used
pub record Recorded : Type 0 where
  pub run : Run
  pub room : Amount
  pub used : Amount

-- a disk in memory: what it recorded, which calls are to fail, and how many calls have failed
pub record MemoryView : Type 0 where
  pub recorded : Recorded
  pub plan : Plan
  pub faults : ℕ

-- a run without calls
abbrev pub fresh_run : List ℕ → Run
fresh_run bytes = record { now = synced bytes; past = [] }

-- a record without calls
abbrev pub blank_record : List ℕ → Amount → Recorded
blank_record bytes room = record { run = fresh_run bytes; room = room; used = record { calls = 0; bytes = 0 } }

-- a disk of these bytes without calls, and with this count of faults
abbrev pub unused_disk : List ℕ → List ℕ → Amount → ℕ → MemoryView
unused_disk bytes fails room faults = record { recorded = blank_record bytes room; plan = record { fails = fails; calls = 0 }; faults = faults }

-- there is room for one call more, with so many bytes of its piece
pub record HasRoom (recorded : Recorded) (count : ℕ) : Type 0 where
  pub calls : recorded.used.calls < recorded.room.calls
  pub bytes : recorded.used.bytes + count ≤ recorded.room.bytes

-- a record with one call more, which left this state and has so many bytes of a piece
abbrev pub noted : Recorded → State → ℕ → Recorded
noted old state count = record {
  run = after old.run state;
  room = old.room;
  used = record { calls = old.used.calls + 1; bytes = old.used.bytes + count };
}

-- the record has the call: it left the first state, or where it failed the second; none where it failed for want of room
abbrev pub Notes : Recorded → Recorded → ℕ → State → State → Result ⊤ DiskFailed → Type 0
Notes old new count served failed (Ok done) = new ≡ noted old served count
Notes old new count served failed (Err fault) = (HasRoom old count × (new ≡ noted old failed 0)) ⊎ (¬ HasRoom old count × (new ≡ old))

-- a call with so many bytes is counted, and succeeds exactly where it is not listed and there is room for it
pub record Follows (old new : MemoryView) (count : ℕ) (served failed : State) (result : Result ⊤ DiskFailed) : Type 0 where
  pub ok : IsOk result ↔ (¬ IsToFail old.plan × HasRoom old.recorded count)
  pub counts : CountsCall old.plan new.plan
  pub notes : Notes old.recorded new.recorded count served failed result
  pub faults : new.faults ≡ (if is_ok result then old.faults else counted old.faults)

-- how many bytes of the pieces are the call's
abbrev pub piece_len : Call → ℕ
piece_len (Wrote span) = span.count
piece_len call = 0

-- all calls together
abbrev pub pieces_len : List Call → ℕ
pieces_len [] = 0
pieces_len (call ∷ calls) = piece_len call + pieces_len calls

-- where the bytes that a call changes end
abbrev pub end_of : Call → ℕ
end_of (Wrote span) = span.at + span.count
end_of call = 0

-- the call has this piece, and the disk the bytes that it changes
pub record Takes (call : Call) (piece : List ℕ) : Type 0 where
  pub whole : piece_len call ≡ length piece
  pub ends : end_of call ≤ 541728

-- the state after a call of this piece; a write that failed changed no byte
abbrev pub state_after : Call → State → List ℕ → State
state_after (Wrote span) state piece = unsynced state span (overwritten span.at piece state.contents)
state_after (Tore span) state piece = unsynced state span state.contents
state_after Synced state piece = synced state.contents
state_after Passed state piece = state

-- the run with these calls, their pieces one after the other
abbrev pub replay : Run → List Call → List ℕ → Run
replay run [] pieces = run
replay run (call ∷ calls) pieces =
    replay (after run (state_after call run.now (take (piece_len call) pieces))) calls (drop (piece_len call) pieces)
