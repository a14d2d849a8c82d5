use Rattle.report_queue.proofs.Names.{waits, rules, arith, AreAllBack, taker_memo, IsAllTaken}
use Rattle.report_queue.proofs.ClosingLemmas.{all_taken}
use Rattle.report_queue.proofs.taker.Taker.take.Goals as goal

pub returns-in-Ok-clause-took : goal.returns-in-Ok-clause-took
returns-in-Ok-clause-took g c =
    let over : AreAllBack (taker_memo c.args.self.now) → IsAllTaken (taker_memo c.args.self.now) → ⊥ =
    λ all taken. c.in-Ok.ensures.over all (λ i memo e. (taken.whole i memo e).decided.within) in
    grind (arith, c.requires.mine, c.in-Ok.ensures, c.refill.ensures, over)

pub returns-in-Err-clause-took : goal.returns-in-Err-clause-took
returns-in-Err-clause-took g c =
    let did = c.in-Err.ensures in
    let was = c.requires.mine in
    record {
      mine = grind (arith, was, did);
      told = did.told;
      admitted = tt;
      counts = search (rules, did);
      few = omega (arith, did.within.0);
      within = did.within.1;
      over = tt;
      all_taken = λ all. rw did.told.1 (all_taken (waits c.in-Err.unready.mark (taker_memo c.args.self.now)) was.made_are was.names all
          (rw did.told.1 at (did.settled all)));
    }
