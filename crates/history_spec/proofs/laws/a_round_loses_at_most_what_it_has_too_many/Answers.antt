-- At most so many are lost by `most`, and so none.
use Rattle.history_spec.proofs.Names.{arith}
use Rattle.history_spec.proofs.RestLemmas.{most}
use Rattle.history_spec.proofs.laws.a_round_loses_at_most_what_it_has_too_many.Goals as goal

pub returns-clause-most : goal.returns-clause-most
returns-clause-most c n callers turns losses first second settled later sees is_later =
    most n callers turns losses first second settled later is_later sees

pub returns-clause-none : goal.returns-clause-none
returns-clause-none c n callers turns losses first second settled later sees is_later few =
    omega (arith, most n callers turns losses first second settled later is_later sees)
