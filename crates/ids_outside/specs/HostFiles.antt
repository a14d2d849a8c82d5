-- Whole reads and writes of the host's streams, and what the host's shelf does with the files that it opens, as far as
-- these tell their bytes.
use Rattle.std.specs.Prelude.{◌≡◌, ◌≢◌, ℕ, ◌<◌, ◌≤◌, List, length, take, Option, Some, IfSome, Result, Ok, Err, Vec, option_map, string_bytes}
use Rattle.std.specs.Io.KnownBytes.{Appends, Keeps}
use Rattle.std.specs.declared.alloc.Global.{Global}
use Rattle.ids_outside.specs.declared.faults.ReadFault.TheVariants as read
use Rattle.ids_outside.specs.declared.faults.ReadFault.{ReadFault}
use Rattle.ids_outside.specs.declared.faults.WriteFault.TheVariants as write
use Rattle.ids_outside.specs.declared.faults.WriteFault.{WriteFault}
use Rattle.ids_outside.specs.declared.host_shelf.OpenFile.{OpenFile}

-- a read to the end gives the bytes that were left, or says that they exceed the limit
abbrev pub StreamGives : List ℕ → ℕ → Result (Vec ℕ Global) ReadFault → Type 0
StreamGives left limit (Ok bytes) = bytes.items ≡ left
StreamGives left limit (Err read.Failed) = Unit {0}
StreamGives left limit (Err read.TooLong) = limit < length left
StreamGives left limit (Err read.NoMemory) = Unit {0}

-- a first part of the piece was written, maybe none or all of it
pub record WritesPart (old new : Option (List ℕ)) (piece : List ℕ) : Type 0 where
  pub count : ℕ
  pub within : count ≤ length piece
  pub written : Appends old new (take count piece)

-- a write takes the piece; one that fails takes a first part of it, and one without memory nothing
abbrev pub StreamTakes : {T : Type 0} → Option (List ℕ) → Option (List ℕ) → List ℕ
    → Result T WriteFault → Type 0
StreamTakes old new piece (Ok _) = Appends old new piece
StreamTakes old new piece (Err write.Failed) = WritesPart old new piece
StreamTakes old new piece (Err write.NoMemory) = Keeps old new

-- when it was opened, a file of the host had these bytes left, or more than the limit, where it tells them
pub record WasRead {F : Type 0} (IsOpened : F → Type 0) (remaining : F → Option (List ℕ)) (limit : ℕ) (result : Result (Vec ℕ Global) ReadFault) : Type 0 where
  pub file : F
  pub opened : IsOpened file
  pub gives : IfSome (remaining file) (λ left. StreamGives left limit result)

-- an answer with bytes, or that they are too long, comes of a file as it was opened
abbrev pub ReadsFile : {F : Type 0} → (F → Type 0) → (F → Option (List ℕ)) → ℕ → Result (Vec ℕ Global) ReadFault → Type 0
ReadsFile IsOpened remaining limit (Ok bytes) = WasRead IsOpened remaining limit (Ok bytes)
ReadsFile IsOpened remaining limit (Err read.Failed) = Unit {0}
ReadsFile IsOpened remaining limit (Err read.TooLong) = WasRead IsOpened remaining limit (Err read.TooLong)
ReadsFile IsOpened remaining limit (Err read.NoMemory) = Unit {0}

-- a file of the host took the whole piece after what it held: the one that was open, where that has this name, else one
-- that was just opened; and it stays open
pub record WasWritten {F : Type 0} (IsOpened : F → Type 0) (contents : F → Option (List ℕ)) (name piece : List ℕ) (before now : Option (OpenFile F)) : Type 0 where
  pub old : F
  pub new : F
  pub same : IfSome before (λ current. string_bytes current.name ≡ name → old ≡ current.file)
  pub opened : option_map (λ current. string_bytes current.name) before ≢ Some name → IsOpened old
  pub stays : IfSome now (λ opened. new ≡ opened.file)
  pub whole : Appends (contents old) (contents new) piece
