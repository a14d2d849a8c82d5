-- Files by name, and what reads, creations and appends make of them.
use Rattle.std.specs.Prelude.{◌≡◌, ◌≢◌, ◌⊎◌, ℕ, ◌<◌, ◌≤◌, List, [], ◌++◌, length, take, Option, Some, unwrap_or, IsSomeAnd, Result, Ok, Err, Vec}
use Rattle.ids_outside.specs.declared.faults.ReadFault.TheVariants as read
use Rattle.ids_outside.specs.declared.faults.ReadFault.{ReadFault}
use Rattle.ids_outside.specs.declared.faults.WriteFault.TheVariants as write
use Rattle.ids_outside.specs.declared.faults.WriteFault.{WriteFault}
use Rattle.std.specs.declared.alloc.Global.{Global}

-- the bytes of each file by the bytes of its name, and none where there is no such file
abbrev pub Files : Type 0
Files = List ℕ → Option (List ℕ)

-- each name has the same file
abbrev pub SameFiles : Files → Files → Type 0
SameFiles old new = (name : List ℕ) → new name ≡ old name

-- each name but this one has the same file
abbrev pub SameOthers : Files → Files → List ℕ → Type 0
SameOthers old new name = (other : List ℕ) → other ≢ name → new other ≡ old other

-- this name has this now, and no other name changes
pub record Changes (old new : Files) (name : List ℕ) (now : Option (List ℕ)) : Type 0 where
  pub at : new name ≡ now
  pub others : SameOthers old new name

-- the bytes that an append to this name adds to: none where there is no such file
abbrev pub bytes_at : Files → List ℕ → List ℕ
bytes_at files name = unwrap_or (files name) []

-- the same files, and an empty one at each name that has none
abbrev pub empty_elsewhere : Files → Files
empty_elsewhere files name = Some (bytes_at files name)

-- the file of this name is there, and longer than the limit
abbrev pub IsTooLong : Files → List ℕ → ℕ → Type 0
IsTooLong files name limit = IsSomeAnd (files name) (λ bytes. limit < length bytes)

-- these are the bytes of the file of this name, and within the limit
pub record Holds (files : Files) (name : List ℕ) (limit : ℕ) (bytes : List ℕ) : Type 0 where
  pub there : files name ≡ Some bytes
  pub within : length bytes ≤ limit

-- a read gives the bytes of a file that is there and within the limit, or says that it is too long
abbrev pub ReadGives : Files → List ℕ → ℕ → Result (Vec ℕ Global) ReadFault → Type 0
ReadGives files name limit (Ok bytes) = Holds files name limit bytes.items
ReadGives files name limit (Err read.Failed) = Unit {0}
ReadGives files name limit (Err read.TooLong) = IsTooLong files name limit
ReadGives files name limit (Err read.NoMemory) = Unit {0}

-- the file of this name is as it was, or empty
pub record ClearsAtMost (old new : Files) (name : List ℕ) : Type 0 where
  pub at : (new name ≡ old name) ⊎ (new name ≡ Some [])
  pub others : SameOthers old new name

-- a creation leaves the file there and empty; one that fails may leave it as it was
abbrev pub CreateMakes : {T : Type 0} → Files → Files → List ℕ → Result T WriteFault → Type 0
CreateMakes old new name (Ok _) = Changes old new name (Some [])
CreateMakes old new name (Err write.Failed) = ClearsAtMost old new name
CreateMakes old new name (Err write.NoMemory) = SameFiles old new

-- the file of this name has a first part of the piece after its bytes, maybe none or all of it
pub record AddsPart (old new : Files) (name piece : List ℕ) : Type 0 where
  pub count : ℕ
  pub within : count ≤ length piece
  pub added : new name ≡ Some (bytes_at old name ++ take count piece)

-- the file of this name is as it was, or a first part of the piece was added to it
pub record AddsAtMost (old new : Files) (name piece : List ℕ) : Type 0 where
  pub at : (new name ≡ old name) ⊎ AddsPart old new name piece
  pub others : SameOthers old new name

-- an append adds the piece; one that fails adds a first part of it, or nothing
abbrev pub AppendMakes : {T : Type 0} → Files → Files → List ℕ → List ℕ → Result T WriteFault
    → Type 0
AppendMakes old new name piece (Ok _) = Changes old new name (Some (bytes_at old name ++ piece))
AppendMakes old new name piece (Err write.Failed) = AddsAtMost old new name piece
AppendMakes old new name piece (Err write.NoMemory) = SameFiles old new
