-- What unpacking bytes answers: the runs whose units they are, or where they stop to be units.
use Rattle.std.specs.Prelude.{◌≡◌, ℕ, List, Result, Err, ⊤}
use Rattle.ids_bundle.specs.declared.fault.UnpackFault.{UnpackFault}
use Rattle.ids_bundle.specs.declared.fault.UnpackFault.TheVariants.{Bad, Cut, NoMemory}
use Rattle.ids_bundle.specs.Units.{Run, Reads, unit, FitsUnit, IsPart, IsBad}

-- why unpacking stops before these bytes, which begin at this place
abbrev pub StopsAt : UnpackFault → ℕ → List ℕ → Type 0
StopsAt (Bad at) place rest = (at ≡ place) × IsBad rest
StopsAt (Cut at) place rest = (at ≡ place) × IsPart rest
StopsAt NoMemory place rest = ⊥

-- what unpacking the bytes gives where there is memory
abbrev pub Unpacks : List ℕ → Result (List Run) UnpackFault → Type 0
Unpacks bytes answer = Reads unit FitsUnit StopsAt bytes answer

-- unpacking may answer this fault: want of memory at any time
abbrev pub MayStop : List ℕ → UnpackFault → Type 0
MayStop bytes NoMemory = ⊤
MayStop bytes fault = Unpacks bytes (Err fault)
