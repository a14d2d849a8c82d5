use Rattle.ids_bundle.proofs.Names.{arith, are_bytes, take_rest}
use Rattle.ids_bundle.proofs.UnitLemmas.{few_messages}
use Rattle.ids_bundle.proofs.PackLemmas.{filling_begins, filling_more, filling_ends}
use Rattle.ids_bundle.proofs.packing.first_run.Goals as goal

pub loop-len-init : goal.loop-len-init
loop-len-init c = filling_begins _ _ _ c.in_ok-load.ensures.begins c.in_ok-load.ensures.few

pub overflow_add-number : goal.overflow_add-number
overflow_add-number c = omega (arith, few_messages c.loop-len.invariant.run, c.loop-len.invariant.is_run.few)

pub loop-len-preserved : goal.loop-len-preserved
loop-len-preserved c = filling_more _ _ _ _ _ c.loop-len.invariant (rw (take_rest c.args.bytes.now c.loop-len.load) at c.in-Ok.ensures.begins) c.in-Ok.ensures.few

pub returns-clause-first : goal.returns-clause-first
returns-clause-first c = filling_ends _ _ _ _ _ _ c.loop-len.invariant (are_bytes _ c.type_inv.bytes) (rw (take_rest c.args.bytes.now c.loop-len.load) at c.in_default.ensures.stops)
