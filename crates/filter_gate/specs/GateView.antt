-- What contracts see of a `GateState`.
use Rattle.filter_gate.specs.declared.gate_state.GateState.TheInside.{Inside}
use Rattle.filter_gate.specs.Gate.{Gate}

-- the gate that the fields hold
abbrev pub gate_of : Inside → Gate
gate_of g = record { state = g.state; rows = g.rows.items }
