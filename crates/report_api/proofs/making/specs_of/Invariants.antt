use Rattle.report_api.proofs.Names.{◌≡◌, length, map, take, class_of, vec_capacity}
use Rattle.report_api.proofs.making.specs_of.Given as goal

abbrev pub invariant-loop-class : goal.invariant-loop-class
invariant-loop-class l = (l.specs.items ≡ map class_of (take l.class-index l.classes)) × (vec_capacity l.specs ≡ length l.classes)
