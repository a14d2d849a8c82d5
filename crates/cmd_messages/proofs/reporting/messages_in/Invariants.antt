use Rattle.cmd_steps.proofs.Names.{AreSmall, length, sum_by, take, ◌*◌, ◌^◌, ◌≡◌, ◌≤◌}
use Rattle.cmd_messages.proofs.reporting.messages_in.Given as goal

-- the messages of the sources before this one are counted
abbrev pub invariant-loop-source : goal.invariant-loop-source
invariant-loop-source l = record {
  sum : l.messages ≡ sum_by length (take l.source-index l.sources);
  most : l.messages ≤ l.source-index * 2 ^ 40;
  few : length l.sources ≤ 8;
  small : AreSmall l.sources;
}
