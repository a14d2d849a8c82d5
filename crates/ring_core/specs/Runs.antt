-- Lists of steps.
use Rattle.std.specs.Prelude.{◌≡◌, ◌+◌, ◌<◌, ◌∷◌}
use Rattle.ring_core.specs.Names.{ℕ, List, [], length, take, IsSome, Option, Some, None, Result, Ok, Err, Step}
use Rattle.std.specs.Option.{option_and_then}
use Rattle.ring_core.specs.declared.fault.RunFault.{RunFault}
use Rattle.ring_core.specs.declared.fault.RunFault.TheVariants.{NotPossible, NoMemory}
use Rattle.ring_core.specs.Machine.{Machine, next}

-- the state after all steps, where each is possible in turn
abbrev pub after_all : Machine → List Step → Option Machine
after_all m [] = Some m
after_all m (step ∷ steps) = option_and_then (λ (now : Machine). after_all now steps) (next m step)

-- step `at` is the first that is not possible: all before it are, in turn
pub record StopsAt (start : Machine) (steps : List Step) (at : ℕ) : Type 0 where
  pub within : at < length steps
  pub before : IsSome (after_all start (take at steps))
  pub stops : after_all start (take (at + 1) steps) ≡ None

-- a run answers the state after all steps, or the first step that is not possible
abbrev pub RunAnswers : Machine → List Step → Result Machine RunFault → Type 0
RunAnswers start steps (Ok now) = after_all start steps ≡ Some now
RunAnswers start steps (Err (NotPossible at)) = StopsAt start steps at
RunAnswers start steps (Err NoMemory) = Unit {0}
