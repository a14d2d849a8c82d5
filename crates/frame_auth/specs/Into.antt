-- Messages sealed into a buffer of the caller.
use Rattle.std.specs.Prelude.{◌≡◌, ℕ, ◌+◌, ◌-◌, ◌^◌, ◌<◌, ◌≤◌, List, ◌++◌, length, drop, min, Result, Ok, Err}
use Rattle.ids_frame.specs.{joined}
use Rattle.frame_auth.specs.declared.fault.SealIntoFault.{SealIntoFault}
use Rattle.frame_auth.specs.declared.fault.SealIntoFault.TheVariants.{Start, Messages, Short}
use Rattle.frame_auth.specs.declared.sealing.SealedPut.{SealedPut}
use Rattle.frame_auth.specs.Sealing.{joined_sealed, Copies}
use Rattle.frame_auth.specs.Faults.{GivesSealed}

-- the messages can be sealed, and have so many bytes then, as far as 64 bits can tell
pub record HasSealedLength (key : List ℕ) (start : ℕ) (messages : List ℕ) (len : ℕ) : Type 0 where
  pub out : List ℕ
  pub sealed : Copies joined (joined_sealed key start) messages out
  pub long : len ≡ min (length out) (2 ^ 64 - 1)

-- why messages are not sealed into a buffer of so many bytes
abbrev pub LacksSealed : (key : List ℕ) (start room : ℕ) → List ℕ → SealIntoFault → Type 0
LacksSealed key start room messages Start = 2 ^ 62 < start
LacksSealed key start room messages (Messages fault) = (start ≤ 2 ^ 62) × GivesSealed key start messages (Err fault)
LacksSealed key start room messages (Short wanted) = (start ≤ 2 ^ 62) × (room < wanted) × HasSealedLength key start messages wanted

-- the sealed messages that are put into a buffer of so many bytes, or why none are
abbrev pub PutsSealed : (key : List ℕ) (start room : ℕ) → List ℕ → Result (List ℕ) SealIntoFault → Type 0
PutsSealed key start room messages (Ok out) = (start ≤ 2 ^ 62) × (length out ≤ room) × Copies joined (joined_sealed key start) messages out
PutsSealed key start room messages (Err fault) = LacksSealed key start room messages fault

-- the buffer begins with these bytes, which end at this place, and behind it is as it was
pub record IsWritten (end : ℕ) (front old new : List ℕ) : Type 0 where
  pub place : end ≡ length front
  pub bytes : new ≡ front ++ drop end old

-- the messages stand sealed at the front of the buffer, and the counter is told that follows the last
pub record IsSealedInto (key : List ℕ) (start : ℕ) (messages old new : List ℕ) (put : SealedPut) : Type 0 where
  pub out : List ℕ
  pub puts : PutsSealed key start (length old) messages (Ok out)
  pub next : put.next ≡ start + length puts.2.messages
  pub written : IsWritten put.bytes out old new
