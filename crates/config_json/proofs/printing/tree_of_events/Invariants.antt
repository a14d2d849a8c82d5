use Rattle.config_json.proofs.PrintedLemmas.{◌≡◌, ◌++◌, map, drop, view, event_tree}
use Rattle.config_json.proofs.printing.tree_of_events.Given as goal

-- the trees of the rest, after those that were made, are the trees of all
abbrev pub invariant-loop-event : goal.invariant-loop-event
invariant-loop-event l =
    map view l.trees.items ++ map event_tree (drop l.event-index l.events)
    ≡ map event_tree l.events
