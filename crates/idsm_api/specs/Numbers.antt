-- An answer with a number.
use Rattle.std.specs.Prelude.{ℕ}
use Rattle.idsm_api.specs.declared.answer.Answer.{Answer}
use Rattle.idsm_api.specs.declared.answer.Answer.TheVariants.{Done}
use Rattle.idsm_api.specs.declared.number.NumberAnswer.{NumberAnswer}

-- the number that was asked for
abbrev pub tells : ℕ → NumberAnswer
tells number = record { answer = Done; number = number }

-- a refusal
abbrev pub tells_none : Answer → NumberAnswer
tells_none answer = record { answer = answer; number = 0 }
