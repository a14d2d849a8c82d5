use Rattle.chain_spec.proofs.QuietLemmas.{quiet_same, quiet_handed, quiet_causal}
use Rattle.chain_spec.proofs.laws.a_quiet_turn_changes_nothing.Goals as goal

pub returns : goal.returns
returns c = record { same = quiet_same; handed = quiet_handed; causal = quiet_causal }
