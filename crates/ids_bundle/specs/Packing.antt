-- What packing bytes answers: the runs of the greedy cut, or the first message that is none or is too long.
use Rattle.std.specs.Prelude.{◌≡◌, ℕ, ◌<◌, ◌≤◌, List, length, Result, Ok, Err, ⊤}
use Rattle.ids_frame.specs.{MessageParts, FitsMessage, spelling, BeginsWith, CauseOf}
use Rattle.ids_bundle.specs.declared.fault.PackFault.{PackFault}
use Rattle.ids_bundle.specs.declared.fault.PackFault.TheVariants.{Bad, TooLarge, NoMemory}
use Rattle.ids_bundle.specs.Units.{Run, AreTexts, StopsBehind}
use Rattle.ids_bundle.specs.Cuts.{IsPacked}

-- a message of at most so many bytes
pub record FitsIn (size : ℕ) (m : MessageParts) : Type 0 where
  pub fits : FitsMessage m
  pub few : length (spelling m) ≤ size

-- a message of this length stands at the front
pub record BeginsLong (bytes : List ℕ) (len : ℕ) : Type 0 where
  pub message : MessageParts
  pub rest : List ℕ
  pub begins : BeginsWith bytes message rest
  pub long : len ≡ length (spelling message)

-- why packing stops before these bytes, which begin at this place
abbrev pub StopsAt : ℕ → PackFault → ℕ → List ℕ → Type 0
StopsAt size (Bad bad) place rest = (bad.at ≡ place) × CauseOf bad.fault rest
StopsAt size (TooLarge at) place rest = (at ≡ place) × ((len : ℕ) × BeginsLong rest len × (size < len))
StopsAt size NoMemory place rest = ⊥

-- the bytes are messages that fit, and these runs are their greedy cut
pub record ArePacked (size : ℕ) (bytes : List ℕ) (runs : List Run) : Type 0 where
  pub messages : List MessageParts
  pub read : AreTexts spelling (FitsIn size) bytes messages
  pub packed : IsPacked size messages runs

-- what packing the bytes gives where there is memory
abbrev pub Packs : ℕ → List ℕ → Result (List Run) PackFault → Type 0
Packs size bytes (Ok runs) = ArePacked size bytes runs
Packs size bytes (Err fault) = StopsBehind spelling (FitsIn size) (StopsAt size fault) bytes

-- packing may answer this fault: want of memory at any time
abbrev pub MayStop : ℕ → List ℕ → PackFault → Type 0
MayStop size bytes NoMemory = ⊤
MayStop size bytes fault = Packs size bytes (Err fault)
