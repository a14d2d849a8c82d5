use Rattle.config_json.proofs.PrintedLemmas.{◌≡◌, ◌++◌, map, drop, view, class_of, class_in}
use Rattle.config_json.proofs.parts.read_classes.Given as goal

-- what the rest has, after what was read, is what all trees have
abbrev pub invariant-loop-value : goal.invariant-loop-value
invariant-loop-value l =
    map class_of l.classes.items ++ map class_in (map view (drop l.value-index l.values))
    ≡ map class_in (map view l.values)
