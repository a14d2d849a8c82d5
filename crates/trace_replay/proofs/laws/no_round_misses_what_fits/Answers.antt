-- At most so many are missing by `most_missing`, and so none.
use Rattle.trace_replay.proofs.Names.{arith, length, too_many}
use Rattle.history_spec.proofs.ClassRestLemmas.{greatest_le}
use Rattle.trace_replay.proofs.RoundLossLemmas.{most_missing}
use Rattle.trace_replay.proofs.laws.no_round_misses_what_fits.Goals as goal

pub returns : goal.returns
returns c = record {
  most = λ config rounds m gives k first second is are less one other. most_missing config rounds m gives k is are less first second one other;
  none = λ config rounds m gives k first second is are less one other few. omega (
    arith,
    most_missing config rounds m gives k is are less first second one other,
    greatest_le (length config.classes) 0 (too_many config gives.turns first second) (λ i low. omega (arith, few i low)),
  );
}
