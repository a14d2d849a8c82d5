use Rattle.std.proofs.Common.{◌≡◌, drop}
use Rattle.ids_config.specs.Values.{each_event}
use Rattle.ids_config.proofs.events.check_events.Given as goal

-- the rest has the fault that all events have
abbrev pub invariant-loop-index : goal.invariant-loop-index
invariant-loop-index l =
    each_event l.profile l.index (drop l.index l.events) ≡ each_event l.profile 0 l.events
