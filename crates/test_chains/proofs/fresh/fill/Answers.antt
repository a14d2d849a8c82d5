use Rattle.std.proofs.Common.{subst, sym, arith}
use Rattle.std.specs.List.{All}
use Rattle.std.proofs.lemmas.List.Elements.{All-push}
use Rattle.test_chains.specs.Remembered.{IsFresh}
use Rattle.test_chains.proofs.fresh.fill.Goals as goal

-- one more took no turn
pub loop-alloc-preserved : goal.loop-alloc-preserved
loop-alloc-preserved c =
    let is_fresh = IsFresh c.args.config.now in
    let before = c.loop-alloc.invariant in
    record {
      fresh = λ all. subst (All is_fresh) (sym c.in_ok-push.ensures.items)
          (All-push is_fresh c.loop-alloc.chains.items c.in_ok-make.field-0 (before.fresh all) c.in_ok-make.ensures);
      more = omega (arith, c.in_ok-push.ensures.len, before.more);
    }
