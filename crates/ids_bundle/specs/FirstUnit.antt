-- The first unit of the greedy cut of messages, put into a buffer of the caller.
use Rattle.std.specs.Prelude.{◌≡◌, ℕ, ◌+◌, ◌<◌, ◌≤◌, List, [], ◌++◌, length, Result, Ok, Err}
use Rattle.std.specs.List.{AllByRecursion}
use Rattle.ids_frame.specs.{joined}
use Rattle.ids_bundle.specs.declared.fault.UnitFault.{UnitFault}
use Rattle.ids_bundle.specs.declared.fault.UnitFault.TheVariants.{SmallSize, NoMessages, First, Short}
use Rattle.ids_bundle.specs.Units.{Run, load, unit}
use Rattle.ids_bundle.specs.Cuts.{IsRun}
use Rattle.ids_bundle.specs.Packing.{FitsIn, BeginsLong, StopsAt}

-- the bytes begin with this run of messages that fit, and a message behind it would make it too long
pub record IsFirstRun (size : ℕ) (bytes : List ℕ) (run : Run) : Type 0 where
  pub fit : AllByRecursion (FitsIn size) run
  pub is_run : IsRun size run
  pub rest : List ℕ
  pub whole : bytes ≡ joined run ++ rest
  pub full : (len : ℕ) → BeginsLong rest len → size < load run + len

-- why no unit of these messages is put into a buffer of so many bytes
abbrev pub Lacks : (size room : ℕ) → List ℕ → UnitFault → Type 0
Lacks size room bytes SmallSize = size < 64
Lacks size room bytes NoMessages = (64 ≤ size) × (bytes ≡ [])
Lacks size room bytes (First fault) = (64 ≤ size) × (1 ≤ length bytes) × StopsAt size fault 0 bytes
Lacks size room bytes (Short wanted) =
    (64 ≤ size) × (room < wanted) × ((run : Run) × IsFirstRun size bytes run × (wanted ≡ length (unit run)))

-- the run whose unit is put into a buffer of so many bytes, or why none is
abbrev pub Puts : (size room : ℕ) → List ℕ → Result Run UnitFault → Type 0
Puts size room bytes (Ok run) = (64 ≤ size) × (length (unit run) ≤ room) × IsFirstRun size bytes run
Puts size room bytes (Err fault) = Lacks size room bytes fault
