-- The law is `own_lines`.
use Rattle.trace_replay.proofs.RoundLossLemmas.{own_lines}
use Rattle.trace_replay.proofs.laws.an_entry_stands_in_its_round.Goals as goal

pub returns : goal.returns
returns c = own_lines
