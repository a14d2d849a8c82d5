use Rattle.buffer_classes.proofs.{◌≡◌, ◌+◌, class_sizes, first_fitting, first_from}
use Rattle.buffer_classes.proofs.class.Classes.first_fitting.Given as goal

-- the first that fits is one of those that are left
abbrev pub invariant-loop-class : goal.invariant-loop-class
invariant-loop-class l = first_fitting l.len (class_sizes l.self) ≡ l.class + first_from l.len l.class l.self.classes.items
