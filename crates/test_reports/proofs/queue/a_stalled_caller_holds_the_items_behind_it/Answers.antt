use Rattle.report_queue.proofs.MakingLemmas.{all_unused}
use Rattle.test_reports.proofs.queue.a_stalled_caller_holds_the_items_behind_it.Goals as goal

pub last_of-requires : goal.last_of-requires
last_of-requires g c = all_unused c.in_ok-queue.ensures
