-- The rests of a manager: when no call was under way, how many turns there were, and how many calls of each pass.
use Rattle.std.specs.Prelude.{◌≡◌, ℕ, ◌+◌, ◌*◌, ◌≤◌, List, [], ◌∷◌, ◌++◌, map, vec_len, vec_capacity}
use Rattle.report_queue.specs.Parts.{calls_of}
use Rattle.main_function.specs.Names.{Pass}
use Rattle.main_function.specs.declared.rest.RestLog.{RestLog}

-- what is told of rests: how many turns there were at each, and how many calls of each pass, rest by rest
pub record RestsTold : Type 0 where
  pub turns : List ℕ
  pub calls : List ℕ

-- as it was recorded
abbrev pub rests_told : RestLog → RestsTold
rests_told rests = record { turns = rests.turns.items; calls = rests.calls.items }

-- of no rest
abbrev pub no_rests : RestsTold
no_rests = record { turns = []; calls = [] }

-- with one rest more, at which the passes had made so many calls
abbrev pub with_rest : ℕ → List ℕ → RestsTold → RestsTold
with_rest turns calls told = record { turns = told.turns ++ turns ∷ []; calls = told.calls ++ calls }

-- how many calls each pass made, or the pass of what is kept together with one
abbrev pub calls_by : {P : Type 0} → (P → Pass) → List P → List ℕ
calls_by its passes = map (λ has. calls_of (its has).seat) passes

-- there is room for so many rests more, each of so many passes
pub record HasRestRoom (rests passes : ℕ) (log : RestLog) : Type 0 where
  pub turns_room : vec_len log.turns + rests ≤ vec_capacity log.turns
  pub calls_room : vec_len log.calls + rests * passes ≤ vec_capacity log.calls

-- it has the room that it had: no memory was taken for it
pub record KeepsRestRoom (old new : RestLog) : Type 0 where
  pub turns_are : vec_capacity new.turns ≡ vec_capacity old.turns
  pub calls_are : vec_capacity new.calls ≡ vec_capacity old.calls
