use Rattle.config_json.proofs.PrintedLemmas.{◌≡◌, map, drop, view, each, event_shape_at}
use Rattle.config_json.proofs.shape.check_events.Given as goal

-- the rest has the fault that all events have
abbrev pub invariant-loop-index : goal.invariant-loop-index
invariant-loop-index l =
    each (event_shape_at l.form) l.index (map view (drop l.index l.values))
    ≡ each (event_shape_at l.form) 0 (map view l.values)
