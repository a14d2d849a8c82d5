use Rattle.config_json.proofs.PrintedLemmas.{◌≡◌, ◌++◌, map, drop, view, event_in}
use Rattle.config_json.proofs.parts.read_events.Given as goal

-- what the rest has, after what was read, is what all trees have
abbrev pub invariant-loop-value : goal.invariant-loop-value
invariant-loop-value l =
    l.events.items ++ map event_in (map view (drop l.value-index l.values))
    ≡ map event_in (map view l.values)
