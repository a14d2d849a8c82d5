-- What freeing answers, by what a handle has.
use Rattle.std.specs.Prelude.{◌≡◌, ℕ, Option, Some, None}
use Rattle.idsm_api.specs.Answers.{code_of}
use Rattle.idsm_api.specs.declared.answer.Answer.TheVariants.{Done, Unset}
use Rattle.idsm_api.specs.declared.role.Role.{Role}

-- the handle has nothing then; where it had nothing before, it was unset
abbrev pub Closes : Option Role → ℕ → Option Role → Type 0
Closes None code new = (code ≡ code_of Unset) × (new ≡ None)
Closes (Some old) code new = (code ≡ code_of Done) × (new ≡ None)
