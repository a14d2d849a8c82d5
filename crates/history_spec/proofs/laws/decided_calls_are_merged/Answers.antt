-- The law is `are_merged` for all callers at once.
use Rattle.history_spec.proofs.DecidedLemmas.{are_merged}
use Rattle.history_spec.proofs.laws.decided_calls_are_merged.Goals as goal

pub returns : goal.returns
returns c = are_merged
