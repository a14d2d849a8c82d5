use Rattle.buffer_classes.proofs.Names.{◌++◌, ◌∷◌, ◌∙◌, [], arith, length_push, giver_memo, only_reaps, reaps_push}
use Rattle.buffer_classes.proofs.giver.Giver.reap_all.Goals as goal

pub loop-unready-init : goal.loop-unready-init
loop-unready-init c = (c.requires.mine, ([], grind arith))

pub loop-unready-preserved : goal.loop-unready-preserved
loop-unready-preserved c =
    let is = c.loop-unready.invariant in
    let notes = is.1.0 in
    let did = c.reap.ensures in
    let told = c.in-Ok.ensures.told in (
      grind (arith, is.0, did.mine, did.counts, told),
      (notes ++ tt ∷ [], grind (arith, is.1.1, did.counts, told, c.in-Ok.ensures.counts, length_push notes tt, reaps_push notes tt (giver_memo c.args.self.now))),
    )

pub returns-in-Err-clause-did : goal.returns-in-Err-clause-did
returns-in-Err-clause-did c =
    let is = c.loop-unready.invariant in
    let told = rw is.1.1.run at c.in-Err.ensures.told in
    let same = (only_reaps is.1.0 (giver_memo c.args.self.now)).back_is in
    record {
      notes = is.1.0;
      run = (c.in-Err._unready.mark, told.0, told.1);
      few = omega (arith, is.1.1, c.reap.ensures.within, c.in-Err.ensures.counts, is.0.number_is);
      out_few = omega (arith, c.requires.mine.is_keeper, c.requires.mine.number_is);
      settled = grind (arith, c.in-Err.ensures.settled, is.1.1.run, same);
      filled_is = c.reap.ensures.counts.1 ∙ is.1.1.filled_is;
      late_is = is.1.1.late_is;
      number_is = is.1.1.number_is;
    }

pub returns-in-Err-clause-mine : goal.returns-in-Err-clause-mine
returns-in-Err-clause-mine c =
    grind (arith, c.loop-unready.invariant.0, c.reap.ensures.mine, c.reap.ensures.counts, c.in-Err.ensures.told)
