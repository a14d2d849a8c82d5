use Rattle.std.proofs.Common.{◌≡◌, map, drop}
use Rattle.ids_config.specs.{class_of, each_class}
use Rattle.ids_config.proofs.layout.check_classes.Given as goal

-- the rest has the fault that all classes have
abbrev pub invariant-loop-index : goal.invariant-loop-index
invariant-loop-index l =
    each_class l.index l.above (map class_of (drop l.index l.classes))
    ≡ each_class 0 0 (map class_of l.classes)
