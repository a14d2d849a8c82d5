use Rattle.filter_gate.proofs.Names.{◌≡◌, map, take, fresh_row}
use Rattle.filter_gate.proofs.gate_state.fresh_rows.Given as goal

-- the rows so far are those of the events so far
abbrev pub invariant-loop-event : goal.invariant-loop-event
invariant-loop-event l = l.rows.items ≡ map fresh_row (take l.event-index l.events)
