use Rattle.chain_endings.proofs.Lemmas.{all_steps, pieces_left}
use Rattle.chain_spec.specs.{ended_at, fate_name}
use Rattle.chain_endings.specs.{named}
use Rattle.chain_endings.proofs.lines.push_steps.Goals as goal

pub loop-fate-preserved : goal.loop-fate-preserved
loop-fate-preserved c =
    pieces_left (λ step. named (fate_name step) (ended_at step c.args.account.now)) all_steps c.loop-fate.fate-index _ _ c.loop-fate-test.true
    c.loop-fate.invariant (rw (c.as_bytes.ensures.value, c.name.ensures, c.place.ensures.place) at c.in_ok-push_named.ensures.is)
