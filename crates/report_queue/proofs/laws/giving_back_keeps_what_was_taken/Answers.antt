use Rattle.report_queue.proofs.Names.{gave_of}
use Rattle.report_queue.proofs.ClosingLemmas.{taken_on}
use Rattle.report_queue.proofs.laws.giving_back_keeps_what_was_taken.Goals as goal

pub returns-clause-back : goal.returns-clause-back
returns-clause-back g c gave = rw (gave_of _ _ _ _ gave).back_is (λ back. back)

pub returns-clause-taken : goal.returns-clause-taken
returns-clause-taken g c = taken_on c.args.seats c.args.count g.memo.0 g.memo.1
