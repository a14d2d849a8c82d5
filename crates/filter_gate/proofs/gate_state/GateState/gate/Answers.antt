use Rattle.filter_gate.proofs.Names.{rules}
use Rattle.filter_gate.proofs.StandsLemmas.{ending_is, stands_with_item}
use Rattle.filter_gate.proofs.gate_state.GateState.gate.Goals as goal

pub returns-clause-ending : goal.returns-clause-ending
returns-clause-ending c = search (rules, ending_is)

pub returns-clause-stands : goal.returns-clause-stands
returns-clause-stands c = rw c.ask.ensures.gate (search (rules, stands_with_item))
