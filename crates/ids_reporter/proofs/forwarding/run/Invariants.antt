use Rattle.ids_reporter.proofs.Names.{AreFeeding, StaysAtWork}
use Rattle.ids_reporter.proofs.forwarding.run.Given as goal

abbrev pub invariant-loop : goal.invariant-loop
invariant-loop g l = record {
  feeders : AreFeeding l.relay l.sources l.feeders.items;
  works : StaysAtWork l.relay l.sources l.initial.outlet l.outlet;
}
