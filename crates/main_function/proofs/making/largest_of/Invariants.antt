use Rattle.main_function.proofs.Names.{◌≡◌, map, take, class_of, spec_sizes, largest_size}
use Rattle.main_function.proofs.making.largest_of.Given as goal

-- it is the largest of the first classes
abbrev pub invariant-loop-class : goal.invariant-loop-class
invariant-loop-class l = l.largest ≡ largest_size (spec_sizes (map class_of (take l.class-index l.classes)))
