use Rattle.chain_endings.proofs.Lemmas.{◌≡◌, ◌++◌, drop, flat_map, all_steps}
use Rattle.chain_spec.specs.{fate_name, ended_at}
use Rattle.chain_endings.specs.{named, step_fields}
use Rattle.chain_endings.proofs.lines.push_steps.Given as goal

-- what is printed, with the numbers of the steps that are left, is all
abbrev pub invariant-loop-fate : goal.invariant-loop-fate
invariant-loop-fate l =
    l.out.items ++ flat_map (λ step. named (fate_name step) (ended_at step l.account)) (drop l.fate-index all_steps)
    ≡ l.initial.out.items ++ step_fields l.account
