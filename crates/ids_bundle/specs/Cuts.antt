-- Cuts of a list of messages into runs of at most so many bytes, and the greedy one.
use Rattle.std.specs.Prelude.{◌≡◌, ℕ, ◌+◌, ◌<◌, ◌≤◌, List, [], ◌∷◌, length, ⊤}
use Rattle.std.specs.List.{AllByRecursion}
use Rattle.ids_frame.specs.{MessageParts, spelling}
use Rattle.ids_bundle.specs.Units.{Run, load, all_of}

-- there is a message, and they have at most so many bytes
pub record IsRun (size : ℕ) (run : Run) : Type 0 where
  pub some : 1 ≤ length run
  pub few : load run ≤ size

-- each is such a run, and together they are the messages
pub record IsCutFor (size : ℕ) (messages : List MessageParts) (runs : List Run) : Type 0 where
  pub each : AllByRecursion (IsRun size) runs
  pub whole : all_of runs ≡ messages

-- with the message that follows it the run would be too long
abbrev pub IsFullBefore : ℕ → Run → List MessageParts → Type 0
IsFullBefore size run [] = ⊤
IsFullBefore size run (next ∷ messages) = size < load run + length (spelling next)

-- each run but the last would be too long with the first message of the next
abbrev pub AreFull : ℕ → List Run → Type 0
AreFull size [] = ⊤
AreFull size (run ∷ runs) = IsFullBefore size run (all_of runs) × AreFull size runs

-- the greedy cut
pub record IsPacked (size : ℕ) (messages : List MessageParts) (runs : List Run) : Type 0 where
  pub cut : IsCutFor size messages runs
  pub full : AreFull size runs
