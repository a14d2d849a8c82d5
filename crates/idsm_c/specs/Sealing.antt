-- What sealing messages into a buffer answers, by the key and the counter that C keeps.
use Rattle.std.specs.Prelude.{◌≡◌, ◌≢◌, ℕ, ◌≤◌, ◌^◌, List, length, Result, Ok, Err}
use Rattle.frame_auth.specs.{IsKeyLength, filled, LacksSealed, IsSealedInto}
use Rattle.frame_auth.specs.declared.fault.SealFault.TheVariants as faults
use Rattle.frame_auth.specs.declared.fault.SealIntoFault.{SealIntoFault}
use Rattle.frame_auth.specs.declared.fault.SealIntoFault.TheVariants.{Start, Messages, Short}
use Rattle.frame_auth.specs.declared.sealing.SealedPut.{SealedPut}
use Rattle.idsm_api.specs.{code_of}
use Rattle.idsm_api.specs.declared.answer.Answer.{Answer}
use Rattle.idsm_api.specs.declared.answer.Answer.TheVariants.{Done, Unset, OutOfRange, NoMemory, SmallBuffer, BadMessage}
use Rattle.idsm_c.specs.declared.sealing.Sealer.{Sealer}

-- so many bytes make a key, and sealing may begin with this counter
abbrev pub CanSeal : (bytes start : ℕ) → Type 0
CanSeal bytes start = IsKeyLength bytes × (start ≤ 2 ^ 62)

-- a key and a counter that sealing may begin with fill a sealer, and others change nothing
pub record Fills (key : List ℕ) (start : ℕ) (old : Sealer) (code : ℕ) (new : Sealer) : Type 0 where
  pub done : CanSeal (length key) start → (code ≡ code_of Done) × (new ≡ record { next = start; key = filled key; is_set = 1 })
  pub refused : (CanSeal (length key) start → ⊥) → (code ≡ code_of OutOfRange) × (new ≡ old)

-- the answer and the number that are told of sealed messages, or of why there are none
abbrev pub seal_told : Result SealedPut SealIntoFault → Answer × ℕ
seal_told (Ok put) = (Done, put.bytes)
seal_told (Err Start) = (OutOfRange, 0)
seal_told (Err (Messages (faults.Bad bad))) = (BadMessage, bad.at)
seal_told (Err (Messages (faults.Signed at))) = (BadMessage, at)
seal_told (Err (Messages faults.NoMemory)) = (NoMemory, 0)
seal_told (Err (Short wanted)) = (SmallBuffer, wanted)

-- what becomes of the counter that is due and of the buffer: the messages are sealed, or nothing is changed for a reason
abbrev pub SealsBy : (old : Sealer) (messages before : List ℕ) → Result SealedPut SealIntoFault → (next : ℕ) (after : List ℕ) → Type 0
SealsBy old messages before (Ok put) next after = (next ≡ put.next) × IsSealedInto old.key old.next messages before after put
SealsBy old messages before (Err fault) next after =
    (next ≡ old.next) × (after ≡ before) × LacksSealed old.key old.next (length before) messages fault

-- a sealer that was filled seals so
pub record SealsSet (old : Sealer) (messages before : List ℕ) (code bytes : ℕ) (new : Sealer) (after : List ℕ) : Type 0 where
  pub answer : Result SealedPut SealIntoFault
  pub seals : SealsBy old messages before answer new.next after
  pub code_is : code ≡ code_of (seal_told answer).0
  pub bytes_is : bytes ≡ (seal_told answer).1
  pub new_is : new ≡ record old { next = new.next }

-- one that was not filled seals nothing
pub record Seals (old : Sealer) (messages before : List ℕ) (code bytes : ℕ) (new : Sealer) (after : List ℕ) : Type 0 where
  pub unset : old.is_set ≡ 0 → (code ≡ code_of Unset) × (bytes ≡ 0) × (new ≡ old) × (after ≡ before)
  pub set : old.is_set ≢ 0 → SealsSet old messages before code bytes new after
