use Rattle.chain_endings.proofs.Lemmas.{turn_at, State, drop_more, ◌<◌, length, arith, left_next}
use Rattle.chain_endings.proofs.turns.push_entries.Goals as goal

pub loop-i-preserved : goal.loop-i-preserved
loop-i-preserved c before is =
    let entries = (turn_at c.args.history.now.turns c.args.turn).entries in
    let within : c.loop-i.i < length entries = omega (arith, c.loop-i-test.true, c.entries-i-end.ensures) in
    let next = drop_more entries c.loop-i.i (record { caller = 0; call = 0; act = State 0 }) within in
    left_next (rw (next, ← c.entry.ensures) at (c.loop-i.invariant before is)) c.in_ok-rest.ensures
