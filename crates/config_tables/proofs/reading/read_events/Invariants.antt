use Rattle.std.proofs.Common.{◌≡◌, ◌++◌, drop, map}
use Rattle.config_tables.specs.Tables.{event_in}
use Rattle.config_tables.proofs.reading.read_events.Given as goal

-- what the rest has, after what was read, is what all rows have
abbrev pub invariant-loop-row : goal.invariant-loop-row
invariant-loop-row l = l.events.items ++ map event_in (drop l.row-index l.rows) ≡ map event_in l.rows
