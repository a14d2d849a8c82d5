use Rattle.trace_text.proofs.Names.{◌≡◌, [], replicate, callers_asked, AreWithin}
use Rattle.trace_text.proofs.rows.CallerRows.with_room.Given as goal

-- the first callers have no lines
abbrev pub invariant-loop : goal.invariant-loop
invariant-loop l = record {
  asked : callers_asked [] l.made.items ≡ replicate l.counter [];
  within : AreWithin 0 l.made.items;
}
