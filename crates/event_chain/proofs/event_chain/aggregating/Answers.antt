use Rattle.event_chain.proofs.Names.{suc, arith, common_steps}
use Rattle.event_chain.proofs.event_chain.aggregating.Goals.{then-aggregates+in_ok-push, else-aggregates}
use Rattle.event_chain.proofs.event_chain.aggregating.Goals as goal

pub loop-i-preserved : goal.loop-i-preserved
loop-i-preserved g c more whole =
    let before = c.loop-i.invariant (suc more) (omega (arith, whole)) in
    elim c.if-aggregates.branch [
      | then-aggregates+in_ok-push w ↦ grind (arith, common_steps, w.found-is, before)
      | else-aggregates w ↦ grind (arith, common_steps, w.found-is, before)
    ]

pub returns : goal.returns
returns g c =
    let all = c.loop-i.invariant 0 (omega (arith, c.loop-i-test.false)) in
    grind (arith, common_steps, all)
