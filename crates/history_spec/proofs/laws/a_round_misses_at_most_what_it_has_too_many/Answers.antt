-- At most so many go without by `most`, and so none; just so many by `just`.
use Rattle.history_spec.proofs.Names.{length, arith, too_many}
use Rattle.history_spec.proofs.ClassRestLemmas.{greatest_le, most, just}
use Rattle.history_spec.proofs.laws.a_round_misses_at_most_what_it_has_too_many.Goals as goal

pub returns-clause-most : goal.returns-clause-most
returns-clause-most c = most

pub returns-clause-none : goal.returns-clause-none
returns-clause-none c config turns log first second before after asks few = omega (
  arith,
  most config turns log first second before after asks,
  greatest_le (length config.classes) 0 (too_many config turns first second) (λ i less. omega (arith, few i less)),
)

pub returns-clause-just : goal.returns-clause-just
returns-clause-just c = just
