-- At most so many are lost by `most`, and so none.
use Rattle.trace_replay.proofs.Names.{arith}
use Rattle.trace_replay.proofs.RoundLossLemmas.{most}
use Rattle.trace_replay.proofs.laws.no_round_loses_what_fits.Goals as goal

pub returns : goal.returns
returns c = record { most = most; none = λ config rounds m gives k is are less few. omega (arith, most config rounds m gives k is are less) }
