-- Where sealing and unsealing stop, and why: at the first message that is not as it must be.
use Rattle.std.specs.Prelude.{◌≡◌, ℕ, ◌+◌, List, ◌∷◌, ◌++◌, length, Result, Ok, Err, IsSome}
use Rattle.ids_frame.specs.{MessageParts, joined, CauseOf, BeginsWith}
use Rattle.ids_frame.specs.declared.fault.BadMessage.{BadMessage}
use Rattle.frame_auth.specs.declared.fault.SealFault.{SealFault}
use Rattle.frame_auth.specs.declared.fault.SealFault.TheVariants as seals
use Rattle.frame_auth.specs.declared.fault.UnsealFault.{UnsealFault}
use Rattle.frame_auth.specs.declared.fault.UnsealFault.TheVariants as unseals
use Rattle.frame_auth.specs.Sealing.{ArePlain, joined_sealed, Copies, HasNoSeal, HasOtherCounter}

-- after plain messages, written so, stand bytes for which this is why, at this place and after so many messages
pub record StopsBehind (write : List MessageParts → List ℕ) (Why : (at count : ℕ) → List ℕ → Type 0) (bytes : List ℕ) : Type 0 where
  pub front : List MessageParts
  pub are_plain : ArePlain front
  pub next : ℕ
  pub rest : List ℕ
  pub whole : bytes ≡ write front ++ next ∷ rest
  pub why : Why (length (write front)) (length front) (next ∷ rest)

-- no message can be read here
abbrev pub CannotRead : BadMessage → (at : ℕ) → List ℕ → Type 0
CannotRead bad at bytes = (bad.at ≡ at) × CauseOf bad.fault bytes

-- the bytes begin with a message of which this holds
pub record BeginsSo (Holds : MessageParts → Type 0) (bytes : List ℕ) : Type 0 where
  pub message : MessageParts
  pub behind : List ℕ
  pub begins : BeginsWith bytes message behind
  pub holds : Holds message

-- why the message that stands at this place is not sealed; want of memory is no cause
abbrev pub StopsSeal : SealFault → (at : ℕ) → List ℕ → Type 0
StopsSeal (seals.Bad bad) at bytes = CannotRead bad at bytes
StopsSeal (seals.Signed place) at bytes = (place ≡ at) × BeginsSo (λ m. IsSome m.signature) bytes
StopsSeal seals.NoMemory at bytes = ⊥

-- why the message that stands at this place, and for which this counter is due, is not unsealed
abbrev pub StopsUnseal : (key : List ℕ) (due : ℕ) → UnsealFault → (at : ℕ) → List ℕ → Type 0
StopsUnseal key due (unseals.Bad bad) at bytes = CannotRead bad at bytes
StopsUnseal key due (unseals.Tag place) at bytes = (place ≡ at) × BeginsSo (HasNoSeal key) bytes
StopsUnseal key due (unseals.Counter place) at bytes = (place ≡ at) × BeginsSo (HasOtherCounter key due) bytes
StopsUnseal key due unseals.NoMemory at bytes = ⊥

-- what copying messages gives: all of them, or the first fault
abbrev pub Gives : {F : Type 0} (from to : List MessageParts → List ℕ) (Why : F → (at count : ℕ) → List ℕ → Type 0)
    → List ℕ → Result (List ℕ) F → Type 0
Gives from to Why bytes (Ok out) = Copies from to bytes out
Gives from to Why bytes (Err fault) = StopsBehind from (Why fault) bytes

-- what sealing gives
abbrev pub GivesSealed : (key : List ℕ) (start : ℕ) → List ℕ → Result (List ℕ) SealFault → Type 0
GivesSealed key start bytes answer = Gives joined (joined_sealed key start) (λ fault at count. StopsSeal fault at) bytes answer

-- what unsealing gives
abbrev pub GivesUnsealed : (key : List ℕ) (start : ℕ) → List ℕ → Result (List ℕ) UnsealFault → Type 0
GivesUnsealed key start bytes answer =
    Gives (joined_sealed key start) joined (λ fault at count. StopsUnseal key (start + count) fault at) bytes answer
