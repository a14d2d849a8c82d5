-- Files that a command writes, one after another, and what stands where it had to stop.
use Rattle.std.specs.Prelude.{◌∷◌, ◌≡◌, ◌≢◌, ◌≤◌, ◌⊎◌}
use Rattle.cmd_files.specs.Names.{Append, CannotWrite, Contains, CountsFault, Create, Err, Failed, Faults, Files, IsTrue, List, MemoryRefused, NoMemory, Ok, Result, SameOthers, Shelved, Some, Stop, WantsMemory, WriteFault, [], length, map, take, ℕ, ⊤}
use Rattle.std.specs.List.{AllByRecursion}
use Rattle.cmd_files.specs.declared.outputs.NewFile.{NewFile}

-- a file that is to be written, whole
pub record Output : Type 0 where
  pub name : List ℕ
  pub bytes : List ℕ

-- what is to be done: the files that are written, in their order, and the text that is put
pub record Work : Type 0 where
  pub outputs : List Output
  pub said : List ℕ

-- each file is there, whole
abbrev pub AreWritten : List Output → Files → Type 0
AreWritten [] new = Unit {0}
AreWritten (output ∷ outputs) new = (new output.name ≡ Some output.bytes) × AreWritten outputs new

-- each file is as it was
abbrev pub AreUntouched : List Output → Files → Files → Type 0
AreUntouched [] old new = Unit {0}
AreUntouched (output ∷ outputs) old new =
    (new output.name ≡ old output.name) × AreUntouched outputs old new

-- the file holds a first part of its bytes, maybe none or all of them
pub record HoldsPart (new : Files) (output : Output) : Type 0 where
  pub count : ℕ
  pub part : new output.name ≡ Some (take count output.bytes)

-- the file is as it was, or holds a first part of its bytes
abbrev pub StandsInPart : Files → Files → Output → Type 0
StandsInPart old new output = (new output.name ≡ old output.name) ⊎ HoldsPart new output

-- up to some file all are whole; that file stands in part, and those after it are untouched
abbrev pub StandUpTo : List Output → Files → Files → Type 0
StandUpTo [] old new = Unit {0}
StandUpTo (output ∷ outputs) old new =
    (StandsInPart old new output × AreUntouched outputs old new)
    ⊎ ((new output.name ≡ Some output.bytes) × StandUpTo outputs old new)

-- a creation or an append of a file failed, and was the last fault; or memory was refused to one
abbrev pub WriteFails : Faults → Faults → List ℕ → WriteFault → Type 0
WriteFails old new name Failed = CountsFault old new Create name ⊎ CountsFault old new Append name
WriteFails old new name MemoryRefused = WantsMemory old new

-- why a command stops whose write failed so
abbrev pub stop_of_write : {N : Type 0} → WriteFault → Stop N
stop_of_write Failed = CannotWrite
stop_of_write MemoryRefused = NoMemory

-- ---- names

-- the name is none of these
abbrev pub IsNoneOf : List (List ℕ) → List ℕ → Type 0
IsNoneOf [] name = Unit {0}
IsNoneOf (other ∷ names) name = (name ≢ other) × IsNoneOf names name

-- no two of these names are the same
abbrev pub AreApart : List (List ℕ) → Type 0
AreApart [] = Unit {0}
AreApart (name ∷ names) = IsNoneOf names name × AreApart names

-- no file has changed but those of these names
abbrev pub SameBut : List (List ℕ) → Files → Files → Type 0
SameBut names old new = (name : List ℕ) → IsNoneOf names name → new name ≡ old name

abbrev pub names_of : List Output → List (List ℕ)
names_of outputs = map (λ output. output.name) outputs

-- ---- files that are written piece by piece

-- the places at which so many bytes are cut into pieces do not fall; the last piece goes from the last of them to the end
abbrev pub Cuts : ℕ → List ℕ → ℕ → Type 0
Cuts start [] end = start ≤ end
Cuts start (cut ∷ cuts) end = (start ≤ cut) × (cut ≤ end) × Cuts cut cuts end

-- a file as it is to be written
abbrev pub output_of : NewFile → Output
output_of file = record { name = file.name.now; bytes = file.bytes.now }

-- its pieces are such
abbrev pub IsCut : NewFile → Type 0
IsCut file = Cuts 0 file.cuts.now (length file.bytes.now)

-- files that can be written: they are cut into pieces, and have names of their own
pub record CanWrite (files : List NewFile) : Type 0 where
  pub cut : AllByRecursion IsCut files
  pub apart : AreApart (names_of (map output_of files))

-- the bytes of a file from one place to another were added to those before, or a first part of them
abbrev pub AddsTo : Output → (start end : ℕ) → Result ⊤ WriteFault → Shelved → Shelved → Type 0
AddsTo output start end (Ok done) old new =
    (new.faults ≡ old.faults)
    × (IsTrue old.tells → old.files output.name ≡ Some (take start output.bytes) → new.files output.name ≡ Some (take end output.bytes))
AddsTo output start end (Err fault) old new =
    WriteFails old.faults new.faults output.name fault
    × (IsTrue old.tells → old.files output.name ≡ Some (take start output.bytes) → HoldsPart new.files output)

-- what a call does that adds them
pub record Adds (output : Output) (start end : ℕ) (answer : Result ⊤ WriteFault) (old new : Shelved) : Type 0 where
  pub tells : new.tells ≡ old.tells
  pub others : IsTrue old.tells → SameOthers old.files new.files output.name
  pub ends : AddsTo output start end answer old new

-- the write of a file of one of these names failed
pub record OneFails (names : List (List ℕ)) (old new : Faults) (fault : WriteFault) : Type 0 where
  pub name : List ℕ
  pub is_output : Contains names name
  pub fails : WriteFails old new name fault

-- all were written, or they stand up to the one whose write failed
abbrev pub WritesTo : List Output → Result ⊤ WriteFault → Shelved → Shelved → Type 0
WritesTo outputs (Ok done) old new = (new.faults ≡ old.faults) × (IsTrue old.tells → AreWritten outputs new.files)
WritesTo outputs (Err fault) old new =
    OneFails (names_of outputs) old.faults new.faults fault × (IsTrue old.tells → StandUpTo outputs old.files new.files)

-- what a call does that writes files
pub record Writes (outputs : List Output) (answer : Result ⊤ WriteFault) (old new : Shelved) : Type 0 where
  pub tells : new.tells ≡ old.tells
  pub others : IsTrue old.tells → SameBut (names_of outputs) old.files new.files
  pub ends : WritesTo outputs answer old new
