-- What a sink shows at a moment, and after each piece.
use Rattle.std.specs.Prelude.{◌≡◌, ℕ, ◌≤◌, List, [], ◌++◌, length, take, Bool, true, false, Result, Ok, Err}
use Rattle.ids_outside.specs.Faults.{Rose}
use Rattle.ids_outside.specs.declared.faults.WriteFault.TheVariants as write
use Rattle.ids_outside.specs.declared.faults.WriteFault.{WriteFault}

-- how often a put has failed, and how often memory was refused to one
pub record Misses : Type 0 where
  pub failed : ℕ
  pub refused : ℕ

-- what a sink shows: whether it tells what it took, what it took, and which puts it missed
pub record Heard : Type 0 where
  pub tells : Bool
  pub taken : List ℕ
  pub misses : Misses

-- what a sink shows that tells what it took
abbrev pub hearing : List ℕ → Misses → Heard
hearing taken misses = record { tells = true; taken = taken; misses = misses }

-- what a sink shows that tells its misses alone
abbrev pub deaf : Misses → Heard
deaf misses = record { tells = false; taken = []; misses = misses }

-- the misses of a sink whose puts were all taken
abbrev pub no_misses : Misses
no_misses = record { failed = 0; refused = 0 }

-- a first part of the piece was taken, maybe none or all of it
pub record TakesPart (old new piece : List ℕ) : Type 0 where
  pub count : ℕ
  pub within : count ≤ length piece
  pub taken : new ≡ old ++ take count piece

-- a put takes the piece; one that fails takes a first part of it, and one without memory nothing
abbrev pub PutTakes : {T : Type 0} → List ℕ → List ℕ → List ℕ → Result T WriteFault → Type 0
PutTakes old new piece (Ok _) = new ≡ old ++ piece
PutTakes old new piece (Err write.Failed) = TakesPart old new piece
PutTakes old new piece (Err write.NoMemory) = new ≡ old

-- a put failed
pub record MissesOne (old new : Misses) : Type 0 where
  pub rose : Rose old.failed new.failed
  pub refused : new.refused ≡ old.refused

-- memory was refused to a put
pub record RefusesOne (old new : Misses) : Type 0 where
  pub rose : Rose old.refused new.refused
  pub failed : new.failed ≡ old.failed

-- a put is counted exactly where it failed, or memory was refused to it
abbrev pub PutCause : {T : Type 0} → Misses → Misses → Result T WriteFault → Type 0
PutCause old new (Ok _) = new ≡ old
PutCause old new (Err write.Failed) = MissesOne old new
PutCause old new (Err write.NoMemory) = RefusesOne old new
