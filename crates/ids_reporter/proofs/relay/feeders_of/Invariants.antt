use Rattle.ids_reporter.proofs.Names.{◌≤◌, vec_capacity, IsNewRelay, ruled_capacity}
use Rattle.ids_reporter.proofs.relay.feeders_of.Given as goal

abbrev pub invariant-loop-source : goal.invariant-loop-source
invariant-loop-source l = IsNewRelay (ruled_capacity l.relay.line) l.source l.relay l.drain l.feeders.items × (l.count ≤ vec_capacity l.feeders)
