-- What contracts see of a `Config`, and what holds of its fields.
use Rattle.std.specs.Prelude.{◌≡◌, Ok}
use Rattle.ids_config.specs.declared.config.Config.TheInside.{Inside}
use Rattle.ids_config.specs.Parts.{Parts}
use Rattle.ids_config.specs.Values.{parts_value}

-- the parts that were found without fault
abbrev pub held_parts : Inside → Parts
held_parts c = c.parts

-- the parts have no fault of value
abbrev pub IsChecked : Inside → Type 0
IsChecked c = parts_value c.parts ≡ Ok tt
