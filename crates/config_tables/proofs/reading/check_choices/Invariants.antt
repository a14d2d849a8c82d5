use Rattle.std.proofs.Common.{◌≡◌, drop}
use Rattle.ids_config.specs.Steps.{each}
use Rattle.config_tables.specs.Tables.{choices_at}
use Rattle.config_tables.proofs.reading.check_choices.Given as goal

-- the rest has the fault that all events have
abbrev pub invariant-loop-index : goal.invariant-loop-index
invariant-loop-index l = each choices_at l.index (drop l.index l.events) ≡ each choices_at 0 l.events
