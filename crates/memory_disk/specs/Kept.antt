-- How a disk in memory tells its run: by the bytes that it was made with, and its calls.
use Rattle.std.specs.Prelude.{◌≡◌, ◌≤◌, length, vec_len, vec_capacity}
use Rattle.memory_disk.specs.declared.memory_disk.MemoryDisk.TheInside as disk
use Rattle.memory_disk.specs.declared.recording.Recording.TheInside as recording
use Rattle.memory_disk.specs.Recorded.{MemoryView, Recorded, fresh_run, pieces_len, replay}

-- what contracts see of a record
abbrev pub recorded : recording.Inside → Recorded
recorded r = record {
  run = replay (fresh_run r.first.items) r.calls.items r.pieces.items;
  room = record { calls = r.calls_room; bytes = r.bytes_room };
  used = record { calls = length r.calls.items; bytes = length r.pieces.items };
}

-- the pieces are those of the calls, and there is the room that is told
pub record IsSound (r : recording.Inside) : Type 0 where
  pub first : length r.first.items ≡ 541728
  pub pieces : pieces_len r.calls.items ≡ length r.pieces.items
  pub used : vec_len r.pieces ≤ r.bytes_room
  pub calls_room : r.calls_room ≤ vec_capacity r.calls
  pub bytes_room : r.bytes_room ≤ vec_capacity r.pieces

-- what contracts see of a disk
abbrev pub viewed : disk.Inside → MemoryView
viewed d = record {
  recorded = d.recording;
  plan = record { fails = d.fails.items; calls = d.calls };
  faults = d.faults;
}

-- the bytes and the ranges are those that the record tells, and there is room for as many ranges as calls
pub record IsKept (d : disk.Inside) : Type 0 where
  pub now : d.recording.run.now ≡ record { contents = d.bytes.items; written = d.unsynced.items }
  pub size : length d.bytes.items ≡ 541728
  pub used : vec_len d.unsynced ≤ d.recording.used.calls
  pub room : d.recording.room.calls ≤ vec_capacity d.unsynced
