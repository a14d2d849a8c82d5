use Rattle.ids_bundle.proofs.Names.{refl, arith}
use Rattle.ids_bundle.proofs.UnpackLemmas.{one_counted}
use Rattle.ids_bundle.proofs.unpacking.count.Goals as goal

pub loop-messages-preserved : goal.loop-messages-preserved
loop-messages-preserved c = record {
  few = omega (arith, c.loop-messages.invariant.few, c.in-Some.ensures.less);
  left = λ runs fit all.
      one_counted runs _ c.loop-messages.rest.now _ c.in-Some.messages c.loop-messages.found _ (c.loop-messages.invariant.left runs fit all) all (omega arith)
      c.in-Some.ensures.less c.in-Some.ensures.told refl (λ lt. omega (arith, c.saturating_add.ensures, c.into.ensures));
}
