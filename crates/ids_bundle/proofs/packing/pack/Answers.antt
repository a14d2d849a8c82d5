use Rattle.ids_bundle.proofs.Names.{arith, common_steps}
use Rattle.ids_bundle.proofs.UnitLemmas.{few_messages}
use Rattle.ids_bundle.proofs.PackLemmas.{packing_more, packing_ends}
use Rattle.ids_bundle.proofs.packing.pack.Goals as goal

-- a run has a message
pub loop-rest-smaller : goal.loop-rest-smaller
loop-rest-smaller c =
    let first = c.in_ok-number.ensures.first in
    omega (arith, few_messages first.0, first.1.is_run.some, first.3)

pub loop-rest-preserved : goal.loop-rest-preserved
loop-rest-preserved c =
    packing_more _ _ _ _ _ _ _ _ _ c.loop-rest.invariant c.in_ok-number.ensures.first c.split_at.ensures.front c.split_at.ensures.back c.in_ok-push_unit.ensures

pub returns-clause-packed : goal.returns-clause-packed
returns-clause-packed c = packing_ends _ _ _ _ c.loop-rest.invariant (grind (arith, common_steps))
