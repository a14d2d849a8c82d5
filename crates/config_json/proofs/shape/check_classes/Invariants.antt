use Rattle.config_json.proofs.PrintedLemmas.{◌≡◌, map, drop, view, each, class_shape}
use Rattle.config_json.proofs.shape.check_classes.Given as goal

-- the rest has the fault that all classes have
abbrev pub invariant-loop-index : goal.invariant-loop-index
invariant-loop-index l =
    each class_shape l.index (map view (drop l.index l.values)) ≡ each class_shape 0 (map view l.values)
