use Rattle.config_json.proofs.PrintedLemmas.{◌≡◌, ◌++◌, map, drop, view, class_of, class_tree}
use Rattle.config_json.proofs.printing.tree_of_classes.Given as goal

-- the trees of the rest, after those that were made, are the trees of all
abbrev pub invariant-loop-class : goal.invariant-loop-class
invariant-loop-class l =
    map view l.trees.items ++ map class_tree (map class_of (drop l.class-index l.classes))
    ≡ map class_tree (map class_of l.classes)
