-- Faults of shelves and sinks: how many there were, which came last, and which answers count one; how
-- often memory was refused to a call; and scripted failures: a body in memory numbers its calls from 0,
-- and those that a test lists fail.
use Rattle.std.specs.Prelude.{◌≡◌, ◌⊎◌, ℕ, ◌+◌, ◌-◌, ◌^◌, ◌≤◌, min, List, Contains, Option, None, Some, Result, Ok, Err}
use Rattle.std.specs.declared.io.ErrorKind.{ErrorKind}
use Rattle.std.specs.declared.io.ErrorKind.TheVariants.{OutOfMemory}
use Rattle.ids_outside.specs.declared.faults.FaultKind.{FaultKind}
use Rattle.ids_outside.specs.declared.faults.FaultKind.TheVariants.{Read}
use Rattle.ids_outside.specs.declared.faults.ReadFault.TheVariants as read
use Rattle.ids_outside.specs.declared.faults.ReadFault.{ReadFault}
use Rattle.ids_outside.specs.declared.faults.WriteFault.TheVariants as write
use Rattle.ids_outside.specs.declared.faults.WriteFault.{WriteFault}

-- one more, in a count of 64 bits that stays at its greatest value
abbrev pub counted : ℕ → ℕ
counted n = min (n + 1) (2 ^ 64 - 1)

-- a count rose, or stays at its greatest value
abbrev pub Rose : ℕ → ℕ → Type 0
Rose before now = counted before ≤ now

-- a fault of a shelf: the call that failed, and the name that it was given
pub record Fault : Type 0 where
  pub kind : FaultKind
  pub name : List ℕ

-- the faults that a shelf has met, and how often memory was refused to a call of it
pub record Faults : Type 0 where
  pub count : ℕ
  pub last : Option Fault
  pub refused : ℕ

-- the faults of a shelf whose calls have all been served
abbrev pub no_faults : Faults
no_faults = record { count = 0; last = None; refused = 0 }

-- a fault was counted, and it is the last one
pub record CountsFault (old new : Faults) (kind : FaultKind) (name : List ℕ) : Type 0 where
  pub rose : Rose old.count new.count
  pub last : new.last ≡ Some (record { kind = kind; name = name })
  pub refused : new.refused ≡ old.refused

-- memory was refused to a call, and no fault was counted
pub record WantsMemory (old new : Faults) : Type 0 where
  pub rose : Rose old.refused new.refused
  pub count : new.count ≡ old.count
  pub last : new.last ≡ old.last

-- a read counts a fault exactly where it answers that it failed, and memory refused to it as such
abbrev pub ReadCause : {T : Type 0} → Faults → Faults → List ℕ → Result T ReadFault → Type 0
ReadCause old new name (Ok _) = new ≡ old
ReadCause old new name (Err read.Failed) = CountsFault old new Read name
ReadCause old new name (Err read.TooLong) = new ≡ old
ReadCause old new name (Err read.NoMemory) = WantsMemory old new

-- so does a write of this kind
abbrev pub WriteCause : {T : Type 0} → FaultKind → Faults → Faults → List ℕ → Result T WriteFault
    → Type 0
WriteCause kind old new name (Ok _) = new ≡ old
WriteCause kind old new name (Err write.Failed) = CountsFault old new kind name
WriteCause kind old new name (Err write.NoMemory) = WantsMemory old new

-- the fault at an error of this kind: the host's want of memory, or a failure
abbrev pub fault_at : {F : Type 0} → F → F → ErrorKind → F
fault_at wants failed OutOfMemory = wants
fault_at wants failed _ = failed

-- the numbers of the calls that are to fail, and how many calls were made
pub record Plan : Type 0 where
  pub fails : List ℕ
  pub calls : ℕ

-- the number of the next call is listed
abbrev pub IsToFail : Plan → Type 0
IsToFail plan = Contains plan.fails plan.calls

-- one more call was made, and the listed numbers stay
pub record CountsCall (old new : Plan) : Type 0 where
  pub calls : new.calls ≡ counted old.calls
  pub fails : new.fails ≡ old.fails

-- want of memory aside, a read fails exactly where its number is listed or its file is missing
abbrev pub ReadFollows : {T : Type 0} → Plan → Option (List ℕ) → Result T ReadFault → Type 0
ReadFollows plan file (Ok _) = ¬ IsToFail plan
ReadFollows plan file (Err read.Failed) = IsToFail plan ⊎ (file ≡ None)
ReadFollows plan file (Err read.TooLong) = ¬ IsToFail plan
ReadFollows plan file (Err read.NoMemory) = Unit {0}

-- want of memory aside, a write fails exactly where its number is listed
abbrev pub WriteFollows : {T : Type 0} → Plan → Result T WriteFault → Type 0
WriteFollows plan (Ok _) = ¬ IsToFail plan
WriteFollows plan (Err write.Failed) = IsToFail plan
WriteFollows plan (Err write.NoMemory) = Unit {0}
