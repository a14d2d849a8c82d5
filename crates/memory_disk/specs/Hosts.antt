-- What a disk over a file of the host shows, and what it reads.
use Rattle.std.specs.Prelude.{◌≡◌, ℕ, ◌-◌, false, List, [], ◌++◌, length, take, replicate, Option, Some, IfSome}
use Rattle.std.specs.Io.KnownBytes.{Appends}
use Rattle.memory_disk.specs.Disks.{Shown, synced}
use Rattle.memory_disk.specs.declared.host_disk.HostDisk.{HostDisk}

-- how many calls of the disk have failed
abbrev pub host_faults : {R File Dir : Type 0} → HostDisk R File Dir → ℕ
host_faults disk = disk.faults

-- what a disk shows that tells its faults alone
abbrev pub silent : ℕ → Shown
silent faults = record { tells = false; run = record { now = synced []; past = [] }; faults = faults }

-- the first so many bytes, with 0 for each one that is not there
abbrev pub padded : ℕ → List ℕ → List ℕ
padded count bytes = take count bytes ++ replicate (count - length bytes) 0

-- the file was brought to this place, where it tells its places
pub record BroughtTo {F : Type 0} (place : F → Option ℕ) (at : ℕ) (file : F) : Type 0 where
  pub from : F
  pub there : IfSome (place from) (λ _. place file ≡ Some at)

-- a file of the host that was brought to this place had these bytes left, with 0 past its end, where it tells them
pub record FillsFrom {F : Type 0} (place : F → Option ℕ) (remaining : F → Option (List ℕ)) (at : ℕ) (out : List ℕ) : Type 0 where
  pub file : F
  pub there : BroughtTo place at file
  pub fills : IfSome (remaining file) (λ left. out ≡ padded (length out) left)

-- the file took the whole piece, from when it was brought to this place
pub record TakesAt {F : Type 0} (place : F → Option ℕ) (contents : F → Option (List ℕ)) (at : ℕ) (piece : List ℕ) (new : F) : Type 0 where
  pub file : F
  pub there : BroughtTo place at file
  pub takes : Appends (contents file) (contents new) piece
