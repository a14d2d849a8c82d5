-- The names of the reporting modes in texts.
-- Source: the formats of this project (docs/FORMATS.md, docs/CONFIGURATION.md).
use Rattle.std.specs.Prelude.{ℕ, List, [], ◌∷◌, Option, bytes_eq, codes}
use Rattle.std.specs.List.{find}
use Rattle.ids_types.specs.declared.mode.Mode.{Mode}
use Rattle.ids_types.specs.declared.mode.Mode.TheVariants.{Off, Brief, Detailed, BriefBypassing, DetailedBypassing}

-- the name of a mode
abbrev pub mode_name : Mode → List ℕ
mode_name Off = codes "OFF"
mode_name Brief = codes "BRIEF"
mode_name Detailed = codes "DETAILED"
mode_name BriefBypassing = codes "BRIEF_BYPASSING_FILTERS"
mode_name DetailedBypassing = codes "DETAILED_BYPASSING_FILTERS"

-- the modes
abbrev pub all_modes : List Mode
all_modes = Off ∷ Brief ∷ Detailed ∷ BriefBypassing ∷ DetailedBypassing ∷ []

-- the mode of this name
abbrev pub mode_named : List ℕ → Option Mode
mode_named name = find (λ mode. bytes_eq name (mode_name mode)) all_modes
