-- What a shelf shows at a moment.
use Rattle.std.specs.Prelude.{Bool, true, false, None}
use Rattle.ids_outside.specs.Faults.{Faults}
use Rattle.ids_outside.specs.Files.{Files}

-- what a shelf shows: whether it tells its contents, the contents, and its faults
pub record Shelved : Type 0 where
  pub tells : Bool
  pub files : Files
  pub faults : Faults

-- what a shelf shows that tells its contents
abbrev pub telling : Files → Faults → Shelved
telling files faults = record { tells = true; files = files; faults = faults }

-- what a shelf shows that tells its faults alone
abbrev pub silent : Faults → Shelved
silent faults = record { tells = false; files = λ name. None; faults = faults }
