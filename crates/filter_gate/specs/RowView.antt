-- What contracts see of a `Row`, and what holds of its fields.
use Rattle.std.specs.Prelude.{◌<◌}
use Rattle.filter_gate.specs.declared.row.Row.TheInside.{Inside}
use Rattle.filter_gate.specs.Gate.{Row}

-- the row that the fields hold
abbrev pub row_of : Inside → Row
row_of r = record { mode = r.mode; nth = r.nth; since = r.since; block = r.block.items }

-- fewer than n arrived since the last nth one
abbrev pub IsSoundRow : Inside → Type 0
IsSoundRow r = r.since < r.nth
