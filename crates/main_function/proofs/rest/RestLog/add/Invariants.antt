use Rattle.main_function.proofs.Names.{◌≡◌, ◌+◌, ◌≤◌, ◌++◌, ◌∷◌, [], length, take, vec_capacity, vec_len}
use Rattle.main_function.specs.Rests.{calls_by}
use Rattle.main_function.proofs.rest.RestLog.add.Given as goal

-- the calls of the first passes are recorded, and there is room for the others
abbrev pub invariant-loop-has : goal.invariant-loop-has
invariant-loop-has g l = (l.self.turns.items ≡ l.fn.self.turns.items ++ l.turns ∷ [])
    × (l.self.calls.items ≡ l.fn.self.calls.items ++ calls_by g.P.HasPass.its (take l.has-index l.passes))
    × (vec_len l.self.calls + length l.passes ≤ vec_capacity l.self.calls + l.has-index)
