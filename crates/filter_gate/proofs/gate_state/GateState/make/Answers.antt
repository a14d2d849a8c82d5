use Rattle.filter_gate.proofs.Names.{rules}
use Rattle.filter_gate.proofs.MakeLemmas.{all_positive, stands_before}
use Rattle.filter_gate.proofs.gate_state.GateState.make.Goals as goal

pub fresh_rows-requires : goal.fresh_rows-requires
fresh_rows-requires c = search (rules, all_positive)

pub returns : goal.returns
returns c = stands_before c.args.config.now _ (search rules) (search rules)
