-- The numbers of reporting modes.
use Rattle.std.specs.Prelude.{ℕ, ◌==◌, if◌then◌else◌, Option, Some, None}
use Rattle.ids_types.specs.declared.mode.Mode.{Mode}
use Rattle.ids_types.specs.declared.mode.Mode.TheVariants.{Off, Brief, Detailed, BriefBypassing, DetailedBypassing}

-- the mode of a number, where there is one
abbrev pub mode_at : ℕ → Option Mode
mode_at number =
    if number == 0 then Some Off else (
    if number == 1 then Some Brief else (
    if number == 2 then Some Detailed else (
    if number == 3 then Some BriefBypassing else (
    if number == 4 then Some DetailedBypassing else None))))
